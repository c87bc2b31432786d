-- `geometry::rings::least_square` meets its contract. The invariant: `least` is the definition's after i sides.
use mathlib.Core.Path.{◌≡◌}
use Rattle.geometry.specs.Squares.{least_square}
use Rattle.geometry.proofs.rings.least_square.Given as goal

abbrev pub invariant-loop-i : goal.invariant-loop-i
invariant-loop-i g l = l.least ≡ least_square l.short l.p l.best (g.R.Ring.ring l.ring) l.i
