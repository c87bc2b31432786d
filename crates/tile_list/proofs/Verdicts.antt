-- Which texts are readable, over the buffers that a list was read into.
use mathlib.Core.Path.{◌≡◌, refl, sym, ◌∙◌, ap}
use mathlib.Core.Bool.{Bool, true, false, cond, ◌&&◌, true≢false}
use mathlib.Core.List.{List, [], ◌∷◌, ◌++◌, map, append-nil}
use mathlib.Core.Option.{Option, none, some, none-ne-some, some-injective}
use Prim.Native.Nat.{ℕ, zero, suc, ◌*◌, ◌≤◌, ◌<◌}
use native.Mathlib.Omega.{arith}
use borrow.Author.Tests.{eq-eqb, eqb-true}
use lib.Dec.{eqb}
use lib.Pointwise.{pointwise, bytes_decides}
use lib.Ieee.{nan, binary64, of_bits}
use lib.Ieee.Bits.{of_bits-fits}
use lib.ListN.{length, get_or, take, length-map, replicate, length-replicate}
use lib.Seq.{sets, length-take-le, get_or-take}
use Rattle.float.specs.Helpers.{decimal}
use Rattle.float.proofs.Literals.{zero_is}
use Rattle.state.specs.Limits.{front_limit, front_node_limit, points_length, quads_length, quad_limit}
use Rattle.state.specs.State.{Held, quad_nodes, joined, written, reading, quads_of, cut}
use Rattle.state.proofs.Stores.{front_part}
use Rattle.text.specs.Decimal.{same_bytes}
use Rattle.text.specs.Fields.{behind}
use Rattle.answer_text.specs.AnswerText.{state_text}
use Rattle.tile_text.specs.TileList.{TileList, with_fronts, loops_text, list_text, allowed}
use Rattle.tile_text.specs.Reading.{fields_of, worded, coordinate, said, read_list}
use Rattle.tile_text.specs.declared.list.ListRead.{ListRead}
use Rattle.tile_text.specs.Readable.{F64s}
use Rattle.tile_text.specs.Fields.{Lists, lists, ListReadIs}
use Rattle.tile_text.proofs.Allowing.{allowed_is, plain}
use Rattle.tile_text.proofs.Readable.{read_only, read_back}
use Rattle.tile_list.specs.declared.list.HeldList.{HeldList}
use Rattle.tile_list.specs.Steps.{state_in, loops_in, list_of, allowed_held, no_lists, ReadFrom, ReadableIs}
use Rattle.tile_list.proofs.Holding.{allowed-held, held-rings, list_held, state_sound, allowed_in}

-- ---- what is read from a text is made of f64s

coordinates_fit : (fs : List (List ℕ)) → F64s (map coordinate fs)
coordinates_fit [] i l = absurd (omega arith)
coordinates_fit (f ∷ fs) zero l = of_bits-fits binary64 _
coordinates_fit (f ∷ fs) (suc i) l = coordinates_fit fs i (omega arith)

said_fits : (ls : List (List (List ℕ))) → F64s (said ls).state.points
unfolding said
said_fits ls = coordinates_fit (joined (worded (112 ∷ []) ls))

read_is : (t : List ℕ) (l : TileList) → read_list t ≡ some l → said (fields_of t) ≡ l
unfolding read_list
read_is t l e = by (same_bytes (list_text (said (fields_of t))) t && allowed (said (fields_of t))) e
  where
    by : (b : Bool) → cond b (some (said (fields_of t))) none ≡ some l → said (fields_of t) ≡ l
    by true e = some-injective (said (fields_of t)) l e
    by false e = absurd (none-ne-some l e)

read_fits : (t : List ℕ) (l : TileList) → read_list t ≡ some l → F64s l.state.points
read_fits t l e = rw (read_is t l e) at (said_fits (fields_of t))

-- within a list what stands for a place beyond it does not matter
get_or_other : {A : Type 0} (l : List A) (i : ℕ) (x y : A) → i < length l → get_or l i x ≡ get_or l i y
get_or_other [] i x y h = absurd (omega arith)
get_or_other (a ∷ l) zero x y h = refl
get_or_other (a ∷ l) (suc i) x y h = get_or_other l i x y (omega arith)

-- ---- the buffers after reading

module _ (t : List ℕ) (v : HeldList) where
  abbrev b : Held
  b = state_in v

  abbrev o : Held
  o = loops_in v

  -- the list's text: the loops' lines, then the state's
  pub text_is : loops_text (cut (take v.loops v.loop_lengths.now) v.loop_nodes.now) ++ state_text (reading b) ≡ list_text (list_of v)
  unfolding list_text reading
  text_is = refl

  pub points_fit : v.counts.points * 2 ≤ length v.state.points.now → F64s (reading b).points
  unfolding reading
  points_fit h i l =
      let e = length-take-le (v.counts.points * 2) v.state.points.now h in
      rw (get_or-take (v.counts.points * 2) v.state.points.now i (decimal 0 0) (omega arith), get_or_other v.state.points.now i (decimal 0 0) nan (omega arith)) (v.points_fit i)

  module _ (is : ReadFrom t v) where
    pub record Stored (l : TileList) : Type 0 where
      pub allows : allowed l ≡ true
      pub writes : list_text l ≡ t
      pub state : b ≡ written l.state
      pub others : o ≡ written (with_fronts l.loops l.state)
      pub quad_lengths : v.quad_lengths.now ≡ sets no_lists.quad_lengths 0 (map length (map quad_nodes l.state.quads))

    pub stored : (l : TileList) → read_list t ≡ some l → Stored l
    stored l e =
        let r = read_only t l e in
        let a = allowed_is l r.0 in
        let i = is.is l (plain l (read_fits t l e) a) r.1 in
        let g = i.2 in
        let P = ap (λ (x : Lists). x.points) g in
        let Q = ap (λ (x : Lists). x.quads) g in
        let N = ap (λ (x : Lists). x.loop_nodes) g in
        let K = ap (λ (x : Lists). x.loop_lengths) g in
        let M = ap (λ (x : Lists). x.front_nodes) g in
        let F = ap (λ (x : Lists). x.front_lengths) g in
        let lo = i.0 in
        let co = i.1 in
        record {
          allows = r.0;
          writes = r.1;
          state = rw (P, Q, M, F, co) (held-rings l r.0 l.state.fronts a.state);
          others = rw (P, Q, N, K, co, lo) (held-rings l r.0 l.loops a.loops);
          quad_lengths = ap (λ (x : Lists). x.quad_lengths) g;
        }

    list_in_lem : (l : TileList) → Stored l → list_of v ≡ l
    list_in_lem l s = rw (s.state, s.others) (list_held l s.allows)

    allowed_then : (l : TileList) → Stored l → allowed_held b o ≡ true
    allowed_then l s = rw (s.state, s.others) (allowed-held l s.allows)

    -- what the two tests ask of a list that was read
    pub allowed-read : (l : TileList) → read_list t ≡ some l → allowed_held b o ≡ true
    allowed-read l e = allowed_then l (stored l e)

    fours_of : (l : TileList) → Stored l → take v.counts.quads v.quad_lengths.now ≡ map length (map quad_nodes l.state.quads)
    unfolding written
    fours_of l s =
        let few = (allowed_is l s.allows).state.quads in
        let n = length-map l.state.quads quad_nodes in
        let k = length-map (map quad_nodes l.state.quads) length in
        let count : v.counts.quads ≡ length l.state.quads = ap (λ (x : Held). x.counts.quads) s.state in
        front_part no_lists.quad_lengths (map length (map quad_nodes l.state.quads)) v.quad_lengths.now v.counts.quads (omega (arith, length-replicate {A = ℕ} quad_limit 0)) (omega arith) s.quad_lengths

    pub fours_read : read_list t ≡ some (list_of v) → take v.counts.quads v.quad_lengths.now ≡ map length (map quad_nodes (quads_of v.counts.quads v.state.quads.now))
    unfolding reading
    fours_read e = fours_of (list_of v) (stored (list_of v) e)

    by_reading : ((l : TileList) → read_list t ≡ some l → ⊥) → read_list t ≡ none
    by_reading g = by (read_list t) refl
      where
        by : (x : Option TileList) → read_list t ≡ x → read_list t ≡ none
        by none e = e
        by (some l) e = absurd (g l e)

    pub refused_tests : allowed_held b o ≡ false → read_list t ≡ none
    refused_tests e = by_reading (λ l r. true≢false (sym (allowed_then l (stored l r)) ∙ e))

    pub refused_bytes : (list_text (list_of v) ≡ t → ⊥) → read_list t ≡ none
    refused_bytes g = by_reading (λ l r. let s = stored l r in g (ap list_text (list_in_lem l s) ∙ s.writes))

    pub readable_bytes : allowed_held b o ≡ true → list_text (list_of v) ≡ t → read_list t ≡ some (list_of v)
    readable_bytes a e =
        let s = state_sound v a in
        let n = s.points in
        let k = s.points_long in
        ap read_list (sym e) ∙ read_back (list_of v) (points_fit (omega arith)) (allowed_in v a)

-- ---- one text compared with another

behind_more : (w r : List ℕ) → behind w (w ++ r) ≡ some r
unfolding behind
behind_more [] r = refl
behind_more (x ∷ w) r = rw (eq-eqb x x refl) (behind_more w r)

behind_same : (w t : List ℕ) {r : List ℕ} → behind w t ≡ some r → length t ≤ length w → w ≡ t
unfolding behind
behind_same [] [] e h = refl
behind_same [] (b ∷ t) e h = absurd (omega arith)
behind_same (x ∷ w) [] {r} e h = absurd (none-ne-some r e)
behind_same (x ∷ w) (y ∷ t) {r} e h = by (eqb x y) refl (λ g. behind_same w t g (omega arith)) e
  where
    by : (s : Bool) → eqb x y ≡ s → (behind w t ≡ some r → w ≡ t) → cond s (behind w t) none ≡ some r → x ∷ w ≡ y ∷ t
    by true i rec e = let f = eqb-true x y i in let g = rec e in cc
    by false i rec e = absurd (none-ne-some r e)

-- of two texts of the same length the one behind the other tells whether they are the same
pub same_bytes_lem : (w t : List ℕ) (r : Bool) (x : List ℕ) → length w ≡ length t → behind w t ≡ cond r (some x) none → ((r ≡ true) → w ≡ t) × ((r ≡ false) → w ≡ t → ⊥)
same_bytes_lem w t true x l e = ((λ _. behind_same w t e (omega arith)), (λ f. absurd (true≢false f)))
same_bytes_lem w t false x l e =
    ((λ f. absurd (true≢false (sym f))), (λ _ g. none-ne-some [] (sym e ∙ ap (behind w) (sym g) ∙ ap (behind w) (sym (append-nil w)) ∙ behind_more w [])))

module _ (t : List ℕ) (l : TileList) where
  pub not_readable : (out : List ℕ) → read_list t ≡ none → ReadableIs t out l false
  not_readable out e = record { no = λ _. e; yes = λ f. absurd (true≢false (sym f)) }

  -- the list's writing w stands at the front of `out`
  pub compared : (out w : List ℕ) (r : Bool) (end : ℕ) → take end out ≡ w → end ≡ length w → r ≡ pointwise eqb t w → ((w ≡ t → ⊥) → read_list t ≡ none) → (w ≡ t → read_list t ≡ some l)
      → ReadableIs t out l r
  compared out w r end b j e not_same if-same =
      let d = bytes_decides t w in
      record {
        no = λ f. not_same (λ s. true≢false (sym (e ∙ d.1 (sym s)) ∙ f));
        yes = λ f. let s : t ≡ w = d.0 (sym e ∙ f) in (if-same (sym s), ap (λ (n : ℕ). take n out) (ap length s ∙ sym j) ∙ b ∙ sym s);
      }

-- the code's zero is the definition's
pub from_zeros : (t : List ℕ) (new : Lists) (r : ListRead)
    → ListReadIs t (lists (replicate front_node_limit 0) (replicate front_limit 0) (replicate points_length (of_bits binary64 0)) (replicate quads_length 0) (replicate quad_limit 0) (replicate front_node_limit 0) (replicate front_limit 0)) new r
    → ListReadIs t no_lists new r
from_zeros t new r h = rw zero_is at h
