-- A front that is surely clear of a row, told by squares of distances; `rules` says what clear is. Definitions only.
use Rattle.std.specs.Prelude.{ℕ, Bool, not, ◌&&◌, List, length, Float}
use Rattle.std.specs.Float.Ieee.{lt, le}
use Rattle.float.specs.Helpers.{decimal}
use Rattle.float.specs.Root.{root}
use Rattle.geometry.specs.declared.Point.{Point}
use Rattle.geometry.specs.Rings.{point_at, next, node_ring}
use Rattle.geometry.specs.Measures.{short_in_paving}
use Rattle.geometry.specs.Squares.{square_to, segment_square}
use Rattle.rules.specs.Checks.{every}

-- both are above 0, and the bound's root is at least `least`
abbrev pub is_bound : Float → Float → Bool
is_bound bound least = (lt (decimal 0 0) least && lt (decimal 0 0) bound) && le least (root bound)

-- the side from a to b is not short, and the squares of the distances from the row's n points to it are at least `bound`
abbrev pub far_side : Float → Float → List Float → ℕ → Point → Point → Bool
far_side short bound row n a b = not (le (square_to a b) short) && every (λ i. le bound (segment_square short (point_at row i) a b)) n

-- so is every side of the front f
abbrev pub all_far : Float → List Float → List ℕ → List Float → ℕ → Bool
all_far bound pts f row n = let r = node_ring pts f in every (λ i. far_side short_in_paving bound row n (r.at i) (r.at (next r.size i))) (length f)
