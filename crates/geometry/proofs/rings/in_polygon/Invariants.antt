-- `geometry::rings::in_polygon` meets its contract. The invariant: `inside` has the closing side and the sides up to place i, whose point `below` tests.
use Rattle.geometry.proofs.Steps.{Counted}
use Rattle.geometry.proofs.rings.in_polygon.Given as goal

abbrev pub invariant-loop-i : goal.invariant-loop-i
invariant-loop-i g l = Counted l.p (g.R.Ring.ring l.ring) l.i l.inside l.below
