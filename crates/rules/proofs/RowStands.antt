-- What a row that stands has: six nodes or more, a point for each, quads that pass; and what a granted row is.
use mathlib.Core.Path.{◌≡◌, refl}
use mathlib.Core.Bool.{Bool, true, not, ◌&&◌, ◌||◌}
use mathlib.Core.List.{List, [], ◌∷◌, ◌++◌}
use Prim.Native.Nat.{ℕ, zero, suc, ◌+◌, ◌*◌, ◌≤◌, ◌<◌}
use native.Mathlib.Omega.{arith}
use lib.Dec.{eqb, leb, ltb}
use lib.Ieee.{Float}
use lib.ListN.{length, get_or, length-append}
use borrow.Author.Tests.{eqb-true, leb-true, ltb-false, not-false}
use Rattle.float.specs.Helpers.{decimal}
use Rattle.geometry.specs.F64.{◌⊗◌}
use Rattle.geometry.specs.Rings.{Ring, ring_of, node_ring}
use Rattle.geometry.specs.Domain.{rings}
use Rattle.state.specs.Limits.{point_limit, quad_limit}
use Rattle.state.specs.State.{State, quad, nodes}
use Rattle.state.specs.Outcome.{gives, first_true, test}
use Rattle.state.proofs.Basics.{or_false}
use Rattle.state.proofs.Outcomes.{first_none, numbered_gives}
use Rattle.input.specs.Job.{Job}
use Rattle.rules.specs.declared.Projection.{Projection}
use Rattle.rules.specs.declared.Projection.TheVariants.{At, Nothing}
use Rattle.rules.specs.Projecting.{projection_number, projection_values}
use Rattle.rules.specs.Checks.{every, quad_passes, projection, new_points, new_quads, all_project, all_inside, all_off_boundary, all_long_enough, all_clear_of_fronts, all_corners_pass}
use Rattle.rules.specs.Simple.{is_simple}
use Rattle.rules.specs.Row.{front, rest_stands, new_of, row_stands, row_number, committed, next_row}
use Rattle.rules.proofs.Lists.{and_left, and_right}
use Rattle.rules.proofs.Every.{every_at}

values_length : (x : Projection) → eqb (projection_number x) 0 ≡ true → length (projection_values x) ≡ 2
values_length (At x y) e = refl
values_length Nothing e = absurd (omega (arith, eqb-true 22 0 e))

-- where every node projects there is a point for each
pub new_length : (r : Ring) (h : Float) (k : ℕ) → every (λ i. eqb (projection_number (projection r h i)) 0) k ≡ true → length (new_points r h k) ≡ k * 2
unfolding every new_points
new_length r h zero p = refl
new_length r h (suc k) p =
    let e = new_length r h k (and_left _ (eqb (projection_number (projection r h k)) 0) p) in
    omega (arith, length-append (new_points r h k) (projection_values (projection r h k)), values_length (projection r h k) (and_right (every (λ i. eqb (projection_number (projection r h i)) 0) k) _ p))

module _ (j : Job) (pts : List Float) (fronts : List (List ℕ)) (li : ℕ) (stands : row_stands j pts fronts li ≡ true) where
  abbrev old : List ℕ
  old = get_or fronts li []

  abbrev n : ℕ
  n = length old

  abbrev new : List Float
  new = new_of j pts fronts li

  up_to2 : (leb 6 n && all_project (node_ring pts old) j.h) ≡ true
  unfolding row_stands
  up_to2 = and_left _ (rest_stands j pts fronts li new) stands

  pub six : 6 ≤ n
  six = leb-true 6 n (and_left _ _ up_to2)

  pub long : length new ≡ n * 2
  long = new_length (node_ring pts old) j.h n (and_right (leb 6 n) _ up_to2)

  rest : rest_stands j pts fronts li new ≡ true
  unfolding row_stands
  rest = and_right (leb 6 n && all_project (node_ring pts old) j.h) _ stands

  -- the checks before the last
  abbrev before : Bool
  before =
      let outline = rings j.coords j.loops in
      all_inside outline new n && all_off_boundary outline (decimal 5 2 ⊗ j.h) new n && all_long_enough (j.options.min_edge_fraction ⊗ j.h) new n
      && all_clear_of_fronts pts fronts li (j.options.front_gap ⊗ j.h) new n && is_simple (ring_of new n)

  corners_hold : all_corners_pass j.options.corner_limit pts old new ≡ true
  unfolding rest_stands
  corners_hold = and_right before (all_corners_pass j.options.corner_limit pts old new) rest

  pub corners : (i : ℕ) → i < n → quad_passes j.options.corner_limit (pts ++ new) (get_or (new_quads pts old) i (quad 0 0 0 0)) ≡ true
  corners i l = every_at _ n i corners_hold l

-- ---- a granted row: it stands, there is room for it, and this is what it leaves

pub record Granted (j : Job) (s : State) (li : ℕ) (t : State) : Type 0 where
  pub stands : row_stands j s.points s.fronts li ≡ true
  pub points : nodes s + length (front s li) ≤ point_limit
  pub quads : length s.quads + length (front s li) ≤ quad_limit
  pub leaves : committed s li (new_of j s.points s.fronts li) ≡ t

pub granted : (j : Job) (s : State) (li : ℕ) (t : State) → next_row j s li ≡ gives t → Granted j s li t
unfolding next_row row_number
granted j s li t e =
    let m = length (front s li) in
    let ok = row_stands j s.points s.fronts li in
    let all = numbered_gives (first_true (test 22 (not ok) ∷ test 21 (ltb point_limit (nodes s + m) || ltb quad_limit (length s.quads + m)) ∷ [])) _ t e in
    let t22 = first_none 21 (not ok) _ all.0 in
    let t21 = first_none 20 (ltb point_limit (nodes s + m) || ltb quad_limit (length s.quads + m)) _ t22.1 in
    let room = or_false (ltb point_limit (nodes s + m)) (ltb quad_limit (length s.quads + m)) t21.0 in
    record { stands = not-false ok t22.0; points = ltb-false _ _ room.0; quads = ltb-false _ _ room.1; leaves = all.1 }
