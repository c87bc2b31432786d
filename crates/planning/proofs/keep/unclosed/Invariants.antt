-- `planning::keep::unclosed` meets its contract. The invariant: the points left give what all give.
use mathlib.Core.Path.{◌≡◌}
use Prim.Native.Nat.{◌≤◌}
use Rattle.planning.specs.Ring as rings
use Rattle.planning.proofs.keep.unclosed.Given as goal

abbrev pub invariant-loop-m : goal.invariant-loop-m
invariant-loop-m l = (l.m ≤ l.kept.n) × (rings.unclosed l.limit l.kept.pts.now l.m ≡ rings.unclosed l.limit l.kept.pts.now l.kept.n)

abbrev pub decreases-loop-m : goal.decreases-loop-m
decreases-loop-m l = l.m
