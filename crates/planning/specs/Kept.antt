-- The test of one point against those kept, over a buffer that begins with them. Definitions only.
use Rattle.std.specs.Prelude.{ℕ, ◌-◌, Bool, ◌&&◌, List, ltb, Float}
use Rattle.geometry.specs.declared.Point.{Point}
use Rattle.geometry.specs.Rings.{point_at}
use Rattle.planning.specs.Ring.{close}

-- whether p is close to the last of the first m points
abbrev pub close_to_last : Float → List Float → ℕ → Point → Bool
close_to_last limit buffer m p = ltb 0 m && close limit (point_at buffer (m - 1)) p
