-- Points and rings as the calls pass them. Definitions only.
use Rattle.std.specs.Prelude.{ℕ, ◌/◌, Bool, false, cond, List, length, ltb, Float}
use Rattle.geometry.specs.declared.Point.{Point}
use Rattle.geometry.specs.Rings.{Ring, ring_of}
use Rattle.geometry.specs.Measures.{sharp_at}

abbrev pub point : Float → Float → Point
point px py = record { x = px; y = py }

-- the ring of all points of a list of coordinates
abbrev pub ring : List Float → Ring
ring p = ring_of p (length p / 2)

-- whether the corner at place i is sharp; not where there is no such place
unfoldable pub sharp_or_not : List Float → ℕ → Bool
sharp_or_not p i = cond (ltb i (length p / 2)) (sharp_at (ring p) i) false
