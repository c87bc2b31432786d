-- The measures of an outline, for all lengths of its loops. Definitions only.
use Rattle.std.specs.Prelude.{ℕ, ◌*◌, Bool, false, cond, List, length, leb, Float}
use Rattle.std.specs.Float.{nan}
use Rattle.geometry.specs.declared.Point.{Point}
use Rattle.geometry.specs.Domain.{sum_of, rings, domain_area, contains, distance_to_boundary}

-- whether the coordinates have points for loops of these lengths
unfoldable pub loops_fit : List Float → List ℕ → Bool
loops_fit coords loops = leb (sum_of loops * 2) (length coords)

unfoldable pub area_or : List Float → List ℕ → Float
area_or coords loops = cond (loops_fit coords loops) (domain_area (rings coords loops)) nan

unfoldable pub contains_or_not : Point → List Float → List ℕ → Bool
contains_or_not p coords loops = cond (loops_fit coords loops) (contains (rings coords loops) p) false

unfoldable pub boundary_or : Point → List Float → List ℕ → Float
boundary_or p coords loops = cond (loops_fit coords loops) (distance_to_boundary (rings coords loops) p) nan
