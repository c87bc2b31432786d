-- Lines of a letter and nodes: the invariant of the code that reads them.
use mathlib.Core.Path.{◌≡◌, refl, sym, ◌∙◌}
use mathlib.Core.List.{List, [], ◌∷◌, ◌++◌, map, append_assoc}
use Prim.Native.Nat.{ℕ, ◌+◌, ◌≤◌, ◌<◌}
use native.Mathlib.Numerals.{add-one}
use native.Mathlib.Omega.{arith}
use lib.ListN.{length, get_or, drop, set, length-append, get_or-append}
use lib.Seq.{sets, get_or-append-add}
use Rattle.state.specs.State.{joined}
use Rattle.state.proofs.Stores.{sets-append}
use Rattle.answer_text.specs.AnswerText.{lf, numbers_text, lines_text}
use Rattle.text.specs.declared.read.Read.{Read}
use Rattle.tile_text.specs.Plain.{U16s}
use Rattle.tile_text.specs.Fields.{Unlike, NumbersReadIs, RingsReadIs}
use Rattle.tile_text.proofs.Going.{first_at, first_there, unlike_same}
use Rattle.tile_text.proofs.Numbering.{small_first, small_rest}

-- ---- u16s of two lists

module _ (xs ys : List ℕ) (s : U16s (xs ++ ys)) where
  small_left : U16s xs
  small_left i h = rw (get_or-append xs ys 0 i h) at (s i (omega (arith, length-append xs ys)))

  small_right : U16s ys
  small_right i h = rw (get_or-append-add xs ys i 0) at (s (length xs + i) (omega (arith, length-append xs ys)))

-- ---- the first line

module _ (letter : ℕ) where
  lines_more : (ns : List ℕ) (rs : List (List ℕ)) (x : List ℕ) → lines_text (letter ∷ []) (ns ∷ rs) ++ x ≡ letter ∷ (numbers_text ns ++ (lf ∷ (lines_text (letter ∷ []) rs ++ x)))
  unfolding lines_text
  lines_more ns rs x = simp append_assoc

-- ---- where the code is: `count` lines with `stored` nodes read up to place `next`, and those that are left

pub record Rest (t : List ℕ) (letter : ℕ) (old_nodes nodes old_lengths lengths : List ℕ) (next count stored : ℕ) (rings : List (List ℕ)) (rest : List ℕ) : Type 0 where
  pub left : List (List ℕ)
  pub text : drop next t ≡ lines_text (letter ∷ []) left ++ rest
  pub counted : count + length left ≡ length rings
  pub nodes_are : sets nodes stored (joined left) ≡ sets old_nodes 0 (joined rings)
  pub lengths_are : sets lengths count (map length left) ≡ sets old_lengths 0 (map length rings)
  pub small_nodes : U16s (joined left)
  pub small_lengths : U16s (map length left)

pub record Left (t : List ℕ) (at letter : ℕ) (old_nodes nodes old_lengths lengths : List ℕ) (next count stored : ℕ) : Type 0 where
  pub within : (at + count + stored ≤ next) × (next ≤ length t)
  pub is : (rings : List (List ℕ)) (rest : List ℕ) → U16s (joined rings) → U16s (map length rings) → drop at t ≡ lines_text (letter ∷ []) rings ++ rest → Unlike letter rest
      → Rest t letter old_nodes nodes old_lengths lengths next count stored rings rest

module _ (t : List ℕ) (at letter : ℕ) (old_nodes old_lengths : List ℕ) where
  pub left-start : at ≤ length t → Left t at letter old_nodes old_nodes old_lengths old_lengths at 0 0
  left-start h = record {
    within = (omega arith, h);
    is = λ rings rest s u e o. record { left = rings; text = e; counted = omega arith; nodes_are = refl; lengths_are = refl; small_nodes = s; small_lengths = u };
  }

  module _ (nodes lengths : List ℕ) (next count stored : ℕ) (l : Left t at letter old_nodes nodes old_lengths lengths next count stored) where
    -- a line is read
    module _ (h : next < length t) (b : get_or t next 0 ≡ letter) (newer : List ℕ) (r : Read ℕ) (read : NumbersReadIs t (next + 1) stored nodes newer r)
        (longer : List ℕ) (e : r.value < 65536 → longer ≡ set lengths count r.value)
        (q : ℕ) (behind : (r.next ≤ q) × (q ≤ length t) × (r.next < length t → q ≡ r.next + 1)) where
      one_less : (rings : List (List ℕ)) (rest : List ℕ) → Unlike letter rest → Rest t letter old_nodes nodes old_lengths lengths next count stored rings rest
          → Rest t letter old_nodes newer old_lengths longer q (count + 1) (stored + r.value) rings rest
      unfolding lines_text joined
      one_less rings rest o z = by z.left z.text z.counted z.nodes_are z.lengths_are z.small_nodes z.small_lengths
        where
          by : (ms : List (List ℕ)) → drop next t ≡ lines_text (letter ∷ []) ms ++ rest → count + length ms ≡ length rings → sets nodes stored (joined ms) ≡ sets old_nodes 0 (joined rings)
              → sets lengths count (map length ms) ≡ sets old_lengths 0 (map length rings) → U16s (joined ms) → U16s (map length ms)
              → Rest t letter old_nodes newer old_lengths longer q (count + 1) (stored + r.value) rings rest
          by [] w c n k s u = absurd (unlike_same letter _ rest o (sym w ∙ first_there t next letter h b))
          by (m ∷ ms) w c n k s u =
              let tail = lines_text (letter ∷ []) ms ++ rest in
              let first = (first_at t next letter _ (w ∙ lines_more letter m ms rest)).2 in
              let g = read.is m tail (small_left m (joined ms) s) first in
              let f = first_at t r.next lf tail g.1 in
              let place : q ≡ r.next + 1 = behind.2 f.0 in
              let count-is = g.0 in
              let small : r.value < 65536 = let v = small_first (length m) (map length ms) u in omega arith in
              record {
                left = ms;
                text = rw place f.2;
                counted = omega arith;
                nodes_are = rw (g.2, g.0) (sym (sets-append m (joined ms) nodes stored)) ∙ n;
                lengths_are = rw (add-one, e small, g.0) k;
                small_nodes = small_right m (joined ms) s;
                small_lengths = small_rest (length m) (map length ms) u;
              }

      pub left_step : Left t at letter old_nodes newer old_lengths longer q (count + 1) (stored + r.value)
      left_step =
          let w = l.within in
          let v = read.within in
          let p = behind.0 in
          let z = behind.1 in
          record { within = (omega arith, z); is = λ rings rest s u e o. one_less rings rest o (l.is rings rest s u e o) }

    -- no line with this letter follows
    none_left : Unlike letter (drop next t) → (rings : List (List ℕ)) (rest : List ℕ) → Rest t letter old_nodes nodes old_lengths lengths next count stored rings rest
        → (count ≡ length rings) × (drop next t ≡ rest) × (nodes ≡ sets old_nodes 0 (joined rings)) × (lengths ≡ sets old_lengths 0 (map length rings))
    unfolding lines_text joined
    none_left o rings rest z = by z.left z.text z.counted z.nodes_are z.lengths_are
      where
        by : (ms : List (List ℕ)) → drop next t ≡ lines_text (letter ∷ []) ms ++ rest → count + length ms ≡ length rings → sets nodes stored (joined ms) ≡ sets old_nodes 0 (joined rings)
            → sets lengths count (map length ms) ≡ sets old_lengths 0 (map length rings)
            → (count ≡ length rings) × (drop next t ≡ rest) × (nodes ≡ sets old_nodes 0 (joined rings)) × (lengths ≡ sets old_lengths 0 (map length rings))
        by [] w c n k = (omega arith, w, n, k)
        by (m ∷ ms) w c n k = absurd (unlike_same letter _ (drop next t) o (w ∙ lines_more letter m ms rest))

    pub left_done : Unlike letter (drop next t) → RingsReadIs t at letter old_nodes nodes old_lengths lengths (record { value = count; next = next })
    left_done o = let w = l.within in record { within = (omega arith, w.1); is = λ rings rest s u e v. none_left o rings rest (l.is rings rest s u e v) }
