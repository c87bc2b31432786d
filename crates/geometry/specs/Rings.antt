-- Points in a list of coordinates, and closed rings of points. Definitions only.
use Rattle.std.specs.Prelude.{ℕ, ◌+◌, ◌-◌, ◌*◌, cond, List, length, get_or, eqb, Float}
use Rattle.std.specs.Float.{nan}
use Rattle.geometry.specs.declared.Point.{Point}

-- the ith point of a list of coordinates, x before y
abbrev pub point_at : List Float → ℕ → Point
point_at p i = record { x = get_or p (i * 2) nan; y = get_or p (i * 2 + 1) nan }

-- the place after i, and the place before i, in a ring of n places
abbrev pub next : ℕ → ℕ → ℕ
next n i = cond (eqb (i + 1) n) 0 (i + 1)

abbrev pub prev : ℕ → ℕ → ℕ
prev n i = cond (eqb i 0) (n - 1) (i - 1)

-- a closed ring: so many places, and the point at each
pub record Ring : Type 0 where
  pub size : ℕ
  pub at : ℕ → Point

-- the ring of the first n points of a list, and the ring of the points that a list of node numbers names
abbrev pub ring_of : List Float → ℕ → Ring
ring_of p n = record { size = n; at = point_at p }

abbrev pub node_ring : List Float → List ℕ → Ring
node_ring p nodes = record { size = length nodes; at = λ i. point_at p (get_or nodes i 0) }
