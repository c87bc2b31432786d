-- On which side of a line a point is, as the search of the pairs of sides tests it. Definitions only.
use Rattle.std.specs.Prelude.{Bool}
use Rattle.std.specs.Float.Ieee.{lt, neg}
use Rattle.float.specs.Helpers.{decimal}
use Rattle.geometry.specs.declared.Point.{Point}
use Rattle.geometry.specs.Measures.{turn}

-- p is right of the side from a to b: the turn there is below -1e-12
abbrev pub right_of : Point → Point → Point → Bool
right_of a b p = lt (turn a b p) (neg (decimal 1 12))
