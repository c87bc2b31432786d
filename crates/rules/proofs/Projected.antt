-- A node's projection lies within 6,000,000 of the bound of the nodes that it is computed from: three times h, along a direction of length up to 2.
use mathlib.Core.Path.{◌≡◌, refl}
use mathlib.Core.Bool.{Bool, true, false, cond, ◌&&◌, ◌||◌}
use Prim.Native.Nat.{ℕ, zero, suc, ◌+◌, ◌-◌, ◌^◌, ◌≤◌, ◌<◌}
use native.Mathlib.Omega.{arith}
use lib.Dec.{T, eqb, lit<, lit≤}
use lib.Ieee.{Float, binary64, neg, lt}
use lib.Ieee.Fits.{add-fits}
use Rattle.float.specs.Helpers.{decimal, lesser}
use Rattle.float.specs.Root.{root}
use Rattle.float.proofs.Order.{clear, root-clear}
use Rattle.float.proofs.Least.{clear-round, clear-square, clear-sum}
use Rattle.float.proofs.Within.{Within, within_less, neg_within, whole_exact, round_under, add_within, mul_within, div_within, lesser_within, clear_mul, clear_div}
use Rattle.float.proofs.Lengths.{tiny_long, small_long, first_twice, second_twice}
use Rattle.geometry.specs.F64.{◌⊕◌, ◌⊗◌, ◌⊘◌}
use Rattle.geometry.specs.declared.Point.{Point}
use Rattle.geometry.specs.Rings.{Ring, next, prev}
use Rattle.geometry.specs.Measures.{toward, cross, dot, side_length, sharp_turn}
use Rattle.geometry.proofs.Sizes.{All, all_none, all_two, all_append, PointWithin, RingWithin, next_in, side_x, side_y}
use Rattle.state.proofs.Basics.{or_false}
use Rattle.rules.specs.declared.Projection.TheVariants.{At, Nothing}
use Rattle.rules.specs.Projecting.{project, projection_values}
use Rattle.rules.specs.Checks.{projection, new_points}

-- a side's direction: the side by its length
module _ (n : ℕ) (few : n + n ≤ 2 ^ 53) (a b : Point) (p : PointWithin n a) (q : PointWithin n b) (long : lt (side_length a b) (decimal 1 12) ≡ false) where
  abbrev direction : Point
  direction = record { x = (toward a b).x ⊘ side_length a b; y = (toward a b).y ⊘ side_length a b }

  direction_within : PointWithin 2 direction
  direction_within = record {
    x = div_within (toward a b).x (side_length a b) 2 (lit≤ tt) (side_x n few a b p q (decimal 1 12) tiny_long long);
    y = div_within (toward a b).y (side_length a b) 2 (lit≤ tt) (side_y n few a b p q (decimal 1 12) tiny_long long);
  }

module _ (n : ℕ) (few : n + 6000000 ≤ 2 ^ 52) (h : Float) (hw : Within 1000000 h) (hc : T (clear h)) where
  double : n + n ≤ 2 ^ 53
  double = go n few
    where
      go : (n : ℕ) → n + 6000000 ≤ 4503599627370496 → n + n ≤ 9007199254740992
      go n l = omega arith

  room : n + 6000000 ≤ 2 ^ 53
  room = go n few
    where
      go : (n : ℕ) → n + 6000000 ≤ 4503599627370496 → n + 6000000 ≤ 9007199254740992
      go n l = omega arith

  project_all : (before here after : Point) → PointWithin n before → PointWithin n here → PointWithin n after → All (n + 6000000) (projection_values (project before here after h))
  unfolding project
  project_all before here after b p a = go (lt l1 (decimal 1 12) || lt l2 (decimal 1 12) || lt bis_length (decimal 1 9) || lt s (decimal 2 1)) refl
    where
      l1 : Float
      l1 = side_length before here

      l2 : Float
      l2 = side_length here after

      d1 : Point
      d1 = record { x = (toward before here).x ⊘ l1; y = (toward before here).y ⊘ l1 }

      d2 : Point
      d2 = record { x = (toward here after).x ⊘ l2; y = (toward here after).y ⊘ l2 }

      bis : Point
      bis = record { x = neg d1.y ⊕ neg d2.y; y = d1.x ⊕ d2.x }

      squares : Float
      squares = bis.x ⊗ bis.x ⊕ bis.y ⊗ bis.y

      bis_length : Float
      bis_length = root squares

      s : Float
      s = bis_length ⊘ decimal 2 0

      left : Bool
      left = lt (decimal 0 0) (cross d1 d2) && sharp_turn (cross d1 d2) (dot d1 d2)

      extra : Float
      extra = cond left (decimal 25 2 ⊗ h) (decimal 0 0)

      distance : Float
      distance = lesser (h ⊘ s ⊕ extra) (decimal 3 0 ⊗ h)

      extra_clear : (b : Bool) → T (clear (cond b (decimal 25 2 ⊗ h) (decimal 0 0)))
      extra_clear true = clear_mul (decimal 25 2) h (clear-round binary64 25 100) hc
      extra_clear false = clear-round binary64 0 1

      length-clear : T (clear bis_length)
      length-clear = root-clear squares (add-fits binary64 (bis.x ⊗ bis.x) (bis.y ⊗ bis.y)) (clear-sum (bis.x ⊗ bis.x) (bis.y ⊗ bis.y) (clear-square bis.x) (clear-square bis.y))

      three : Within 3 (decimal 3 0)
      three = round_under false 3 1 3 1 (lit< tt) (lit< tt) (whole_exact 3 (lit≤ tt)) (lit≤ tt)

      distance_within : Within 3000000 distance
      distance_within =
          lesser_within 3000000 (h ⊘ s ⊕ extra) (decimal 3 0 ⊗ h)
          (clear-sum (h ⊘ s) extra (clear_div h s hc (clear_div bis_length (decimal 2 0) length-clear (clear-round binary64 2 1))) (extra_clear left))
          (mul_within (decimal 3 0) h 3 1000000 3000000 (lit≤ tt) (lit≤ tt) three hw)

      here_on : (v q : Float) → Within n v → Within 2 q → Within (n + 6000000) (v ⊕ q ⊗ distance)
      here_on v q f g = add_within (n + 6000000) room v (q ⊗ distance) n 6000000 (omega arith) f (mul_within q distance 2 3000000 6000000 (lit≤ tt) (lit≤ tt) g distance_within)

      go : (t : Bool) → (lt l1 (decimal 1 12) || lt l2 (decimal 1 12) || lt bis_length (decimal 1 9) || lt s (decimal 2 1)) ≡ t
          → All (n + 6000000) (projection_values (cond t Nothing (At (here.x ⊕ bis.x ⊘ bis_length ⊗ distance) (here.y ⊕ bis.y ⊘ bis_length ⊗ distance))))
      go true e = all_none (n + 6000000)
      go false e =
          let last = or_false _ (lt s (decimal 2 1)) e in
          let third = or_false _ (lt bis_length (decimal 1 9)) last.0 in
          let first = or_false (lt l1 (decimal 1 12)) (lt l2 (decimal 1 12)) third.0 in
          let u = direction_within n double before here b p first.0 in
          let v = direction_within n double here after p a first.1 in
          let x : Within 4 bis.x = add_within 4 (lit≤ tt) (neg d1.y) (neg d2.y) 2 2 (lit≤ tt) (neg_within d1.y 2 u.y) (neg_within d2.y 2 v.y) in
          let y : Within 4 bis.y = add_within 4 (lit≤ tt) d1.x d2.x 2 2 (lit≤ tt) u.x v.x in
          let wx = within_less bis.x (lit≤ tt) x in
          let wy = within_less bis.y (lit≤ tt) y in
          all_two (n + 6000000) _ _
          (here_on here.x (bis.x ⊘ bis_length) p.x (div_within bis.x bis_length 2 (lit≤ tt) (first_twice bis.x bis.y wx wy (decimal 1 9) small_long third.1)))
          (here_on here.y (bis.y ⊘ bis_length) p.y (div_within bis.y bis_length 2 (lit≤ tt) (second_twice bis.x bis.y wx wy (decimal 1 9) small_long third.1)))

  prev_in : (m i : ℕ) → i < m → prev m i < m
  prev_in m i l = go (eqb i 0) refl
    where
      go : (t : Bool) → eqb i 0 ≡ t → cond t (m - 1) (i - 1) < m
      go true e = omega arith
      go false e = omega arith

  -- the new points of a row on the ring r
  pub new_all : (r : Ring) (k : ℕ) → k ≤ r.size → RingWithin n r → All (n + 6000000) (new_points r h k)
  unfolding new_points
  new_all r zero l w = all_none (n + 6000000)
  new_all r (suc k) l w =
      all_append (n + 6000000) (new_points r h k) (projection_values (projection r h k)) (new_all r k (omega arith) w)
      (project_all (r.at (prev r.size k)) (r.at k) (r.at (next r.size k)) (w _ (prev_in r.size k (omega arith))) (w k (omega arith)) (w _ (next_in r.size k (omega arith))))
