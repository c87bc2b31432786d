-- `b` is the box of the points passed.
use mathlib.Core.Path.{◌≡◌}
use Rattle.rules.specs.Fan.{box}
use Rattle.fan_search.specs.Values.{boxed}
use Rattle.fan_search.proofs.grid.box_of.Given as goal

abbrev pub invariant-loop-i : goal.invariant-loop-i
invariant-loop-i g l = boxed l.b ≡ box (g.R.Ring.ring l.ring) l.i
