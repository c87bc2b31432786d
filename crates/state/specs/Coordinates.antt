-- Coordinates within a limit: numbers 5 and 25. Definitions only.
use Rattle.std.specs.Prelude.{Bool, false, not, ◌&&◌, ◌||◌, List, [], ◌∷◌, Float}
use Rattle.std.specs.Float.Ieee.{lt, le}
use Rattle.float.specs.Helpers.{absolute, is_finite}

-- a NaN is outside
abbrev pub outside : Float → Float → Float → Bool
outside low high x = not (le low x && le x high)

-- a coordinate is not finite or is over `limit` in magnitude
unfoldable pub wrong_coordinate : Float → List Float → Bool
wrong_coordinate limit [] = false
wrong_coordinate limit (c ∷ cs) = not (is_finite c) || lt limit (absolute c) || wrong_coordinate limit cs
