-- A front's node projected inward (`project`), in the order of the Rust's operations. Definitions only.
use Rattle.std.specs.Prelude.{ℕ, cond, ◌&&◌, ◌||◌, List, [], ◌∷◌, Float}
use Rattle.std.specs.Float.Ieee.{neg, lt}
use Rattle.float.specs.Helpers.{decimal, lesser}
use Rattle.float.specs.Root.{root}
use Rattle.geometry.specs.F64.{◌⊕◌, ◌⊗◌, ◌⊘◌}
use Rattle.geometry.specs.declared.Point.{Point}
use Rattle.geometry.specs.Measures.{toward, cross, dot, side_length, sharp_turn}
use Rattle.rules.specs.declared.Projection.{Projection}
use Rattle.rules.specs.declared.Projection.TheVariants.{At, Nothing}

-- s is half the computed length of the two normals' sum. Distance is h/s plus 0.25 × h where the left turn exceeds 30 degrees, at most 3 × h;
-- nothing below s = 0.2.
unfoldable pub project : Point → Point → Point → Float → Projection
project before here after h =
    let e1 = toward before here in
    let e2 = toward here after in
    let l1 = side_length before here in
    let l2 = side_length here after in
    let d1 : Point = record { x = e1.x ⊘ l1; y = e1.y ⊘ l1 } in
    let d2 : Point = record { x = e2.x ⊘ l2; y = e2.y ⊘ l2 } in
    let bis : Point = record { x = neg d1.y ⊕ neg d2.y; y = d1.x ⊕ d2.x } in
    let bis_length = root (bis.x ⊗ bis.x ⊕ bis.y ⊗ bis.y) in
    let s = bis_length ⊘ decimal 2 0 in
    let left = lt (decimal 0 0) (cross d1 d2) && sharp_turn (cross d1 d2) (dot d1 d2) in
    let extra = cond left (decimal 25 2 ⊗ h) (decimal 0 0) in
    let distance = lesser (h ⊘ s ⊕ extra) (decimal 3 0 ⊗ h) in
    cond (lt l1 (decimal 1 12) || lt l2 (decimal 1 12) || lt bis_length (decimal 1 9) || lt s (decimal 2 1)) Nothing
    (At (here.x ⊕ bis.x ⊘ bis_length ⊗ distance) (here.y ⊕ bis.y ⊘ bis_length ⊗ distance))

-- document 01's number and values for each case: a point has its two coordinates, and nothing refuses the row with 22
abbrev pub projection_number : Projection → ℕ
projection_number (At x y) = 0
projection_number Nothing = 22

abbrev pub projection_values : Projection → List Float
projection_values (At x y) = x ∷ y ∷ []
projection_values Nothing = []
