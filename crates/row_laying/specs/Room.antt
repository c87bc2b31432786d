-- What laying a row asks beyond sound and clean buffers. Definitions only.
use Rattle.std.specs.Prelude.{◌≡◌, ℕ, ◌+◌, ◌*◌, ◌<◌, ◌≤◌, length, get_or}
use Rattle.state.specs.Limits.{point_limit, quad_limit}
use Rattle.state.specs.State.{Held}
use Rattle.state.specs.Sound.{sizes_of}

-- a row of m numbers on front li has room: a point for each of the front's nodes, and at most 4,096 points and quads in all
pub record Room (b : Held) (li m : ℕ) : Type 0 where
  pub front : li < length (sizes_of b)
  pub points : b.counts.points + get_or (sizes_of b) li 0 ≤ point_limit
  pub quads : b.counts.quads + get_or (sizes_of b) li 0 ≤ quad_limit
  pub row : m ≡ get_or (sizes_of b) li 0 * 2
