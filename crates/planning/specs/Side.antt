-- A side of a ring as a vector, which serves the side's length and both its corners. Definitions only.
use Rattle.std.specs.Prelude.{ℕ, Float}
use Rattle.geometry.specs.declared.Point.{Point}
use Rattle.geometry.specs.Rings.{Ring, next}
use Rattle.geometry.specs.Measures.{toward, dot}

-- the vector along side i
abbrev pub along : Ring → ℕ → Point
along r i = toward (r.at i) (r.at (next r.size i))

-- the square of a vector's length, of which `side_length` is the root
abbrev pub square : Point → Float
square u = dot u u
