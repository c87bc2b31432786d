-- `crossing::simple::sides_cross` meets its contract. The invariants: no crossing was found by the definition's search of the sides passed, and of this side with those passed, and the test of the end of the last is kept.
use mathlib.Core.Path.{◌≡◌}
use mathlib.Core.Bool.{false}
use Prim.Native.Nat.{◌+◌, ◌-◌}
use Rattle.rules.specs.Simple.{search as search_of}
use Rattle.rules.specs.Simple.{search_side}
use Rattle.crossing.specs.Right.{right_of}
use Rattle.crossing.proofs.simple.sides_cross.Given as goal

abbrev pub invariant-loop-j : goal.invariant-loop-j
invariant-loop-j g l =
    (l.crossed ≡ false)
    × ((search_side (g.R.Ring.ring l.ring) l.i (l.j - (l.i + 1)) (search_of (g.R.Ring.ring l.ring) l.i)).crossed ≡ false)
    × (l.right ≡ right_of l.a l.b ((g.R.Ring.ring l.ring).at l.j))

abbrev pub invariant-sides : goal.invariant-sides
invariant-sides g l = (l.crossed ≡ false) × ((search_of (g.R.Ring.ring l.ring) l.i).crossed ≡ false)
