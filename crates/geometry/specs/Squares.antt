-- Squares of distances: what the code compares before it takes one root. `Measures` and `Domain` say what the distances are. Definitions only.
use Rattle.std.specs.Prelude.{ℕ, zero, suc, cond, List, [], ◌∷◌, Float}
use Rattle.std.specs.Float.Ieee.{lt, le}
use Rattle.float.specs.Helpers.{clamp_unit}
use Rattle.geometry.specs.F64.{◌⊕◌, ◌⊗◌, ◌⊘◌}
use Rattle.geometry.specs.declared.Point.{Point}
use Rattle.geometry.specs.Rings.{Ring, next}
use Rattle.geometry.specs.Measures.{toward, dot, short_in_domain}

-- the square of the distance from a to b
abbrev pub square_to : Point → Point → Float
square_to a b = dot (toward a b) (toward a b)

-- `segment_distance` without its root
unfoldable pub segment_square : Float → Point → Point → Point → Float
segment_square short p a b =
    let t = clamp_unit (dot (toward a p) (toward a b) ⊘ square_to a b) in
    let q : Point = record { x = a.x ⊕ t ⊗ (toward a b).x; y = a.y ⊕ t ⊗ (toward a b).y } in
    cond (le (square_to a b) short) (square_to a p) (square_to q p)

-- d where it is less than `best`
abbrev pub nearer : Float → Float → Float
nearer d best = cond (lt d best) d best

-- the least square to the first k sides of a ring, from `best`
unfoldable pub least_square : Float → Point → Float → Ring → ℕ → Float
least_square short p best r zero = best
least_square short p best r (suc k) = nearer (segment_square short p (r.at k) (r.at (next r.size k))) (least_square short p best r k)

-- the least square to the sides of some rings of the outline, from `best`
unfoldable pub least_from : Point → Float → List Ring → Float
least_from p best [] = best
least_from p best (r ∷ rs) = least_from p (least_square short_in_domain p best r r.size) rs
