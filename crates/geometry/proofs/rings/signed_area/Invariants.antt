-- `geometry::rings::signed_area` meets its contract. The invariant of both loops: the sum has the sides before a place, and `a` is the point before it. The measure is the sides left.
use Prim.Native.Nat.{◌<◌, ◌≤◌, ◌-◌}
use Rattle.geometry.proofs.Steps.{Added}
use Rattle.geometry.proofs.rings.signed_area.Given as goal

abbrev pub invariant-loop-i : goal.invariant-loop-i
invariant-loop-i g l = (0 < l.i) × (l.i ≤ (g.R.Ring.ring l.ring).size) × Added (g.R.Ring.ring l.ring) l.i l.a l.sum

abbrev pub decreases-loop-i : goal.decreases-loop-i
decreases-loop-i g l = l.n - l.i

abbrev pub invariant-loop-j : goal.invariant-loop-j
invariant-loop-j g l = Added (g.R.Ring.ring l.ring) l.j l.a l.sum
