-- `least` is the least square of the first i sides.
use mathlib.Core.Path.{◌≡◌}
use mathlib.Core.Bool.{false}
use lib.Ieee.{inf}
use Rattle.geometry.specs.Measures.{short_in_paving}
use Rattle.geometry.specs.Squares.{least_square}
use Rattle.fan_search.proofs.squares.look_at.Given as goal

abbrev pub invariant-loop-i : goal.invariant-loop-i
invariant-loop-i g l = l.least ≡ least_square short_in_paving l.p (inf false) (g.R.Ring.ring l.front) l.i
