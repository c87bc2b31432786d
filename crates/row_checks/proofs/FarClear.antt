-- A front that is far from a row by squares is clear of it: its least square is at least the bound too, and the root keeps the order.
use mathlib.Core.Path.{◌≡◌, refl, sym, ◌∙◌, ap}
use mathlib.Core.Bool.{Bool, true, false, not, cond, ◌&&◌}
use mathlib.Core.List.{List}
use Prim.Native.Nat.{ℕ, zero, suc, ◌<◌}
use native.Mathlib.Nat.{le_refl, le_trans, le_of_lt}
use lib.Dec.{T}
use lib.ListN.{length}
use lib.Ieee.{Float, inf, binary64, fits, lt, le}
use Rattle.float.specs.Helpers.{decimal, clamp_unit}
use Rattle.float.specs.Root.{root}
use Rattle.float.proofs.Signs.{yes}
use Rattle.float.proofs.Order.{clear, root-clear}
use Rattle.float.proofs.Clear.{under, above_clear, above_number, infinity_last, not_less, root_least}
use Rattle.geometry.specs.F64.{◌⊕◌, ◌⊗◌, ◌⊘◌}
use Rattle.geometry.specs.declared.Point.{Point}
use Rattle.geometry.specs.Rings.{Ring, point_at, next, node_ring}
use Rattle.geometry.specs.Measures.{toward, dot, short_in_paving, ring_distance}
use Rattle.geometry.specs.Squares.{square_to, segment_square, least_square}
use Rattle.geometry.proofs.Choices.{to_foot}
use Rattle.geometry.proofs.Squares.{front_least, front-root}
use Rattle.rules.specs.Checks.{every, all_clear_of}
use Rattle.rules.proofs.Lists.{and_left, and_right}
use Rattle.rules.proofs.Every.{every_at, every_of, every_same}
use Rattle.row_checks.specs.Far.{is_bound, far_side, all_far}

-- ---- a bound of the squares
module _ (bound least : Float) (held : T (fits binary64 bound)) (known : is_bound bound least ≡ true) where
  both : (lt (decimal 0 0) least && lt (decimal 0 0) bound) ≡ true
  both = and_left (lt (decimal 0 0) least && lt (decimal 0 0) bound) (le least (root bound)) known

  some_gap : T (lt (decimal 0 0) least)
  some_gap = yes (and_left (lt (decimal 0 0) least) (lt (decimal 0 0) bound) both)

  some_bound : T (lt (decimal 0 0) bound)
  some_bound = yes (and_right (lt (decimal 0 0) least) (lt (decimal 0 0) bound) both)

  root_reaches : T (le least (root bound))
  root_reaches = yes (and_right (lt (decimal 0 0) least && lt (decimal 0 0) bound) (le least (root bound)) known)

  -- a square that is at least the bound
  not_nearer : (z : Float) → T (fits binary64 z) → T (clear z) → T (le bound z) → lt (root z) least ≡ false
  not_nearer z F c l =
      not_less (root z) least
      (under (root bound) least (root z) (root-clear bound held (above_clear bound some_bound)) (above_clear least some_gap) (root-clear z F c) (above_number least some_gap) (not_less (root bound) least root_reaches)
      (root_least bound z held F (above_clear bound some_bound) l))

  -- ---- the least square of a front
  module _ (p : Point) (r : Ring) where
    abbrev side : ℕ → Float
    side i = segment_square short_in_paving p (r.at i) (r.at (next r.size i))

    pick : (t : Bool) (x y : Float) → T (le bound x) → T (le bound y) → T (le bound (cond t x y))
    pick true x y l m = l
    pick false x y l m = m

    least_reaches : (k : ℕ) → ((i : ℕ) → i < k → le bound (side i) ≡ true) → T (le bound (least_square short_in_paving p (inf false) r k))
    unfolding least_square
    least_reaches zero h = infinity_last bound (above_number bound some_bound)
    least_reaches (suc k) h = pick (lt (side k) (least_square short_in_paving p (inf false) r k)) _ _ (yes (h k (le_refl (suc k)))) (least_reaches k (λ i l. h i (le_trans l (le_of_lt (le_refl (suc k))))))

    ring-clear : ((i : ℕ) → i < r.size → le bound (side i) ≡ true) → lt (ring_distance (inf false) p r r.size) least ≡ false
    ring-clear h =
        let all = (front_least p r r.size).square in
        rw (← front-root p r r.size) (not_nearer _ all.held all.sign (least_reaches r.size h))

  pub far_clear : (pts : List Float) (f : List ℕ) (row : List Float) (n : ℕ) → all_far bound pts f row n ≡ true → true ≡ all_clear_of pts f least row n
  far_clear pts f row n h =
      let r : Ring = node_ring pts f in
      sym (every_of _ n (λ i l. rw (ring-clear (point_at row i) r (λ k m. every_at _ n i (and_right (not (le (square_to (r.at k) (r.at (next r.size k))) short_in_paving)) _ (every_at _ (length f) k h m)) l))))

-- ---- one side

-- the square of the distance from p to its foot on the side from a along d, whose length has the square l
abbrev pub foot_square : Point → Point → Float → Point → Float
foot_square a d l p = let t = clamp_unit (dot (toward a p) d ⊘ l) in square_to (record { x = a.x ⊕ t ⊗ d.x; y = a.y ⊕ t ⊗ d.y }) p

-- as the code computes it for a point of the row
pub foot_of : (bound : Float) (a d : Point) (l t : Float) {p p' : Point} → p ≡ p' → t ≡ clamp_unit (dot (toward a p) d ⊘ l)
    → le bound (square_to (record { x = a.x ⊕ t ⊗ d.x; y = a.y ⊕ t ⊗ d.y }) p) ≡ le bound (foot_square a d l p')
foot_of bound a d l t e f = rw (← e, f)

module _ (short bound : Float) (row : List Float) (n : ℕ) (a b : Point) where
  pub short_side : le (square_to a b) short ≡ true → false ≡ far_side short bound row n a b
  short_side h = rw h

  pub all_feet : le (square_to a b) short ≡ false → {far : Bool} (i : ℕ) → i ≡ n → far ≡ every (λ k. le bound (foot_square a (toward a b) (square_to a b) (point_at row k))) i
      → far ≡ far_side short bound row n a b
  all_feet h i e g = rw h (g ∙ rw e (every_same (λ k. le bound (foot_square a (toward a b) (square_to a b) (point_at row k))) (λ k. le bound (segment_square short (point_at row k) a b)) (λ k. ap (le bound) (to_foot short (point_at row k) a b _ h refl)) n))

-- a side of a ring, whose ends the code has read, came out as t
pub one_side : (bound : Float) (row : List Float) (n : ℕ) (r : Ring) (i : ℕ) {short short' : Float} {a b : Point} {j : ℕ} {far t : Bool} → short ≡ short' → a ≡ r.at i → b ≡ r.at j → j ≡ next r.size i
    → far ≡ far_side short bound row n a b → far ≡ t → far_side short' bound row n (r.at i) (r.at (next r.size i)) ≡ t
one_side bound row n r i hs ha hb hj h g = rw (← hs, ← ha, ← hj, ← hb, ← h) g
