-- Squares of distances: what the search compares before it takes a root. `rules` says what the clearance is. Definitions only.
use Rattle.std.specs.Prelude.{◌≡◌, true, false, ℕ, ◌<◌, T, Float, Result, Ok, Err}
use Rattle.std.specs.Float.{inf, binary64}
use Rattle.std.specs.Float.Ieee.{le, fits}
use Rattle.float.specs.Root.{root}
use Rattle.float.specs.RootTheorems.{clear}
use Rattle.geometry.specs.declared.Point.{Point}
use Rattle.geometry.specs.Rings.{Ring, next}
use Rattle.geometry.specs.Measures.{short_in_paving}
use Rattle.geometry.specs.Squares.{segment_square, least_square}

-- the square of the distance from p to side i of the ring
abbrev pub side_square : Point → Ring → ℕ → Float
side_square p r i = segment_square short_in_paving p (r.at i) (r.at (next r.size i))

-- the least square of all, or a side that is too near
abbrev pub Seen : Point → Ring → Float → Result Float ℕ → Type 0
Seen p r bound (Err i) = (i < r.size) × (le (side_square p r i) bound ≡ true)
Seen p r bound (Ok least) = least ≡ least_square short_in_paving p (inf false) r r.size

-- where a point has been found, the clearance is the square's root; before, no square is at most this one
abbrev pub Squared : Float → Float → Type 0
Squared clearance square = (square ≡ inf true → ⊥) → (clearance ≡ root square) × T (fits binary64 square) × T (clear square)
