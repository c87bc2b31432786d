-- A candidate row's checks one after the other, and the definitions of the row made of them.
use mathlib.Core.Path.{◌≡◌, refl, sym, ◌∙◌, ap}
use mathlib.Core.Bool.{Bool, true, false, cond, not, ◌&&◌, ◌||◌, and_assoc, and_comm}
use mathlib.Core.List.{List, [], ◌∷◌}
use Prim.Native.Nat.{ℕ, ◌+◌, ◌*◌, ◌/◌, ◌%◌, ◌<◌, ◌≤◌}
use borrow.Author.Tests.{lt-leb, le-leb, lt-ltb, le-ltb}
use lib.Dec.{leb, ltb}
use lib.Ieee.{Float}
use lib.ListN.{length, get_or, take}
use Rattle.float.specs.Helpers.{decimal}
use Rattle.geometry.specs.F64.{◌⊗◌}
use Rattle.geometry.specs.Rings.{Ring, ring_of, node_ring}
use Rattle.geometry.specs.Domain.{rings}
use Rattle.input.specs.Job.{Job}
use Rattle.state.specs.declared.fronts.Fronts.{Fronts}
use Rattle.state.specs.Limits.{point_limit, quad_limit}
use Rattle.state.specs.Outcome.{first_true, test}
use Rattle.std.specs.Prelude.{Result, Ok, Err}
use Rattle.state.specs.declared.refusal.Refusal.{Refusal}
use Rattle.state.specs.Refusals.{number, refusal_of}
use Rattle.state.proofs.Refusing.{number_nonzero}
use Rattle.state.proofs.Basics.{twenty_two}
use Rattle.rules.specs.Simple.{is_simple}
use Rattle.rules.specs.Checks.{new_points, all_project, all_inside, all_off_boundary, all_long_enough, all_clear_of_fronts}
use Rattle.rules.specs.Row.{rest_stands, row_stands, row_number}
use Rattle.row_checks.specs.Candidate.{corners_between}
use Rattle.row_checks.proofs.Agreeing.{corners_agree}
use Rattle.row_checks.proofs.Literals.{twentieth_is}
use Rattle.state.specs.State.{cut}
use Rattle.state.proofs.Cutting.{cut_at, cut-length, part_of_all, part_is}
use Rattle.geometry.specs.Domain.{sum_of}
use lib.Ieee.{binary64, of_bits}
use lib.ListN.{drop}

-- ---- the checks after the projection, in the code's order, left at the first that fails

reordered : (a b c d e f : Bool) → (a && b && c && d && e && f) ≡ (a && b && (c && f) && d && e)
reordered true true true d e f = and_comm (d && e) f ∙ sym (and_assoc f d e)
reordered true true false d e f = refl
reordered true false c d e f = refl
reordered false b c d e f = refl

module _ (j : Job) (pts : List Float) (fronts : List (List ℕ)) (li : ℕ) (row : List Float) (n : ℕ) (hn : n ≡ length (get_or fronts li []))
    (even : length pts % 2 ≡ 0) (below : (i : ℕ) → i < length (get_or fronts li []) → get_or (get_or fronts li []) i 0 * 2 + 1 < length pts) where
  abbrev inside : Bool
  inside = all_inside (rings j.coords j.loops) row n

  abbrev off : Bool
  off = all_off_boundary (rings j.coords j.loops) (decimal 5 2 ⊗ j.h) row n

  abbrev long : Bool
  long = all_long_enough (j.options.min_edge_fraction ⊗ j.h) row n

  abbrev clear : Bool
  clear = all_clear_of_fronts pts fronts li (j.options.front_gap ⊗ j.h) row n

  abbrev corners : List ℕ → Bool
  corners old = corners_between j.options.corner_limit pts old row n

  checks_in_order : rest_stands j pts fronts li row ≡ (inside && off && (long && corners (get_or fronts li [])) && clear && is_simple (ring_of row n))
  unfolding rest_stands
  checks_in_order = rw (corners_agree j.options.corner_limit pts (get_or fronts li []) row even below, ← hn) (reordered inside off long clear (is_simple (ring_of row n)) (corners (get_or fronts li [])))

  module _ (b1 : Bool) (e1 : b1 ≡ inside) where
    pub one_outside : b1 ≡ false → false ≡ rest_stands j pts fronts li row
    one_outside h = rw (checks_in_order, ← e1, h)

    module _ (h1 : b1 ≡ true) (b2 : Bool) (e2 : b2 ≡ off) where
      pub one_at_boundary : b2 ≡ false → false ≡ rest_stands j pts fronts li row
      one_at_boundary h = rw (checks_in_order, ← e1, h1, ← e2, h)

      module _ (h2 : b2 ≡ true) (old : List ℕ) (ho : old ≡ get_or fronts li []) (b3 : Bool) (e3 : b3 ≡ (long && corners old)) where
        pub one_quad_fails : b3 ≡ false → false ≡ rest_stands j pts fronts li row
        one_quad_fails h = rw (checks_in_order, ← e1, h1, ← e2, h2, ← ho, ← e3, h)

        module _ (h3 : b3 ≡ true) (b4 : Bool) (e4 : b4 ≡ clear) where
          pub one_near : b4 ≡ false → false ≡ rest_stands j pts fronts li row
          one_near h = rw (checks_in_order, ← e1, h1, ← e2, h2, ← ho, ← e3, h3, ← e4, h)

          pub crossing_decides : b4 ≡ true → (b5 : Bool) → b5 ≡ is_simple (ring_of row n) → b5 ≡ rest_stands j pts fronts li row
          crossing_decides h b5 e5 = rw (checks_in_order, ← e1, h1, ← e2, h2, ← ho, ← e3, h3, ← e4, h) e5

-- the checks as the code makes them, on the front li, whose nodes are `old`
pub in_order : (j : Job) (f : Fronts) (li : ℕ) (row : List Float) {p : List Float} {n : ℕ} {old : List ℕ} → length f.points.now % 2 ≡ 0 → li < length f.lengths.now → p ≡ f.points.now
    → old ≡ get_or (cut f.lengths.now f.nodes.now) li [] → n ≡ length old
    → rest_stands j f.points.now (cut f.lengths.now f.nodes.now) li row
    ≡ (all_inside (rings j.coords j.loops) row n && all_off_boundary (rings j.coords j.loops) (of_bits binary64 0x3FA9_9999_9999_999A ⊗ j.h) row n
    && (all_long_enough (j.options.min_edge_fraction ⊗ j.h) row n && corners_between j.options.corner_limit p old row n)
    && all_clear_of_fronts f.points.now (cut f.lengths.now f.nodes.now) li (j.options.front_gap ⊗ j.h) row n && is_simple (ring_of row n))
unfolding rest_stands
in_order j f li row even hl hp ho hn =
    let named = part_of_all f.lengths.now f.nodes.now li hl f.fits _ _ _ _ refl refl (cut_at f.lengths.now f.nodes.now li hl) f.named in
    rw (
      corners_agree j.options.corner_limit f.points.now (get_or (cut f.lengths.now f.nodes.now) li []) row even named,
      ← ho,
      ← hn,
      hp,
      twentieth_is,
      reordered,
    )

-- ---- the number of a row

module _ (j : Job) (pts : List Float) (fronts : List (List ℕ)) (quads li n : ℕ) (hn : n ≡ length (get_or fronts li [])) where
  abbrev ring : Ring
  ring = node_ring pts (get_or fronts li [])

  pub too_few : n < 6 → 22 ≡ row_number j pts fronts quads li
  unfolding row_number row_stands first_true
  too_few l = rw (lt-leb 6 (length (get_or fronts li [])) (rw hn at l))

  module _ (l : 6 ≤ n) where
    pub no_projection : all_project ring j.h ≡ false → 22 ≡ row_number j pts fronts quads li
    unfolding row_number row_stands first_true
    no_projection p = rw (p, le-leb 6 (length (get_or fronts li [])) (rw hn at l))

    module _ (p : all_project ring j.h ≡ true) (row : List Float) (hr : row ≡ new_points ring j.h n) where
      pub rest_fails : rest_stands j pts fronts li row ≡ false → 22 ≡ row_number j pts fronts quads li
      unfolding row_number row_stands first_true
      rest_fails s = rw (p, le-leb 6 (length (get_or fronts li [])) (rw hn at l), ← (rw hn at hr), s)

      module _ (s : rest_stands j pts fronts li row ≡ true) where
        pub too_many_points : point_limit < length pts / 2 + n → 21 ≡ row_number j pts fronts quads li
        unfolding row_number row_stands first_true
        too_many_points g = rw (p, le-leb 6 (length (get_or fronts li [])) (rw hn at l), ← (rw hn at hr), s, lt-ltb point_limit (length pts / 2 + length (get_or fronts li [])) (rw hn at g))

        pub too_many_quads : length pts / 2 + n ≤ point_limit → quad_limit < quads + n → 21 ≡ row_number j pts fronts quads li
        unfolding row_number row_stands first_true
        too_many_quads g k = rw (p, le-leb 6 (length (get_or fronts li [])) (rw hn at l), ← (rw hn at hr), s, le-ltb point_limit (length pts / 2 + length (get_or fronts li [])) (rw hn at g), lt-ltb quad_limit (quads + length (get_or fronts li [])) (rw hn at k))

        pub stands : length pts / 2 + n ≤ point_limit → quads + n ≤ quad_limit → 0 ≡ row_number j pts fronts quads li
        unfolding row_number row_stands first_true
        stands g k = rw (p, le-leb 6 (length (get_or fronts li [])) (rw hn at l), ← (rw hn at hr), s, le-ltb point_limit (length pts / 2 + length (get_or fronts li [])) (rw hn at g), le-ltb quad_limit (quads + length (get_or fronts li [])) (rw hn at k))

-- ---- the number of a row, on the front li as it was read: `n` nodes from place `start` on

module _ (j : Job) (f : Fronts) (quads li : ℕ) (hl : li < length f.lengths.now) {start n : ℕ} (hs : start ≡ sum_of (take li f.lengths.now)) (hn : n ≡ get_or f.lengths.now li 0) {old : List ℕ}
    (ho : old ≡ take n (drop start f.nodes.now)) where
  abbrev front : List ℕ
  front = get_or (cut f.lengths.now f.nodes.now) li []

  front_is : old ≡ front
  front_is = part_is f.lengths.now f.nodes.now li hl f.fits start n old hs hn ho

  -- the front has as many nodes as were read
  pub front_long : length old ≡ n
  front_long = ap length front_is ∙ sym (cut-length f.lengths.now f.nodes.now li hl f.fits n hn)

  module _ {p : List Float} (hp : p ≡ f.points.now) where
    -- 22 where a check fails, 21 where there is no room for a row that stands
    pub number_is : row_number j f.points.now (cut f.lengths.now f.nodes.now) quads li
        ≡ cond (leb 6 (length old) && all_project (node_ring p old) j.h && rest_stands j f.points.now (cut f.lengths.now f.nodes.now) li (new_points (node_ring p old) j.h (length old)))
        (cond (ltb point_limit (length f.points.now / 2 + length old) || ltb quad_limit (quads + length old)) 21 0)
        22
    unfolding row_number row_stands first_true
    number_is =
        rw (← front_is, hp)
        (go (leb 6 (length old) && all_project (node_ring f.points.now old) j.h && rest_stands j f.points.now (cut f.lengths.now f.nodes.now) li (new_points (node_ring f.points.now old) j.h (length old))) _)
      where
        go : (stands full : Bool) → first_true (test 22 (not stands) ∷ test 21 full ∷ []) ≡ cond stands (cond full 21 0) 22
        go true true = refl
        go true false = refl
        go false full = refl

    pub row_is : (row : List Float) → take (length old * 2) row ≡ new_points (node_ring p old) j.h (length old)
        → take (get_or f.lengths.now li 0 * 2) row ≡ new_points (node_ring f.points.now front) j.h (get_or f.lengths.now li 0)
    row_is row r = rw (← hn, ← front_long, ← front_is, ← hp) r

-- ---- what the projection's answer says

-- of a front that was read as `old`
module _ {A : Type 0} (pts : List Float) (h : Float) (old f : List ℕ) (r : Result A Refusal) (same : old ≡ f) (e : refusal_of r ≡ cond (all_project (node_ring pts old) h) 0 22) where
  pub refused_all : (n : Refusal) → r ≡ Err n → all_project (node_ring pts f) h ≡ false
  refused_all n g = go (all_project (node_ring pts f) h) (rw (same, g) at e)
    where
      go : (b : Bool) → number n ≡ cond b 0 22 → b ≡ false
      go true d = absurd (number_nonzero n d)
      go false d = refl

  pub passed_all : (u : A) → r ≡ Ok u → all_project (node_ring pts f) h ≡ true
  passed_all u g = go (all_project (node_ring pts f) h) (rw (same, g) at e)
    where
      go : (b : Bool) → ◌≡◌ {A = ℕ} 0 (cond b 0 22) → b ≡ true
      go true d = refl
      go false d = absurd (twenty_two (sym d))

-- the new points of a front that was read as `old` and has n nodes
pub projected_row : (pts : List Float) (h : Float) (old f : List ℕ) (n : ℕ) (row : List Float) → old ≡ f → n ≡ length f
    → take (length old * 2) row ≡ new_points (node_ring pts old) h (length old) → take (n * 2) row ≡ new_points (node_ring pts f) h n
projected_row pts h old f n row ho hn g =
    let g' : take (length f * 2) row ≡ new_points (node_ring pts f) h (length f) = rw ho at g in
    rw hn g'

-- the same by another name of their number
pub renamed : (r : Ring) (h : Float) (row : List Float) (n m : ℕ) → n ≡ m → take (n * 2) row ≡ new_points r h n → take (m * 2) row ≡ new_points r h m
renamed r h row n m e g = rw e at g
