-- `placing::place::place` meets its contract. The invariant: the nodes of the first i sides are written.
use mathlib.Core.Path.{◌≡◌}
use Prim.Native.Nat.{◌*◌}
use lib.ListN.{length}
use lib.Seq.{sets}
use Rattle.placing.specs.Placed as laid
use Rattle.planning.specs.Backwards.{read_ring}
use Rattle.placing.proofs.place.place.Given as goal

abbrev pub invariant-loop-i : goal.invariant-loop-i
invariant-loop-i l =
    let r = read_ring l.ring in
    (l.placed * 2 ≡ length (laid.placed l.spacing.h l.spacing.corner_margin r l.i))
    × (l.points ≡ sets l.initial.points (l.at * 2) (laid.placed l.spacing.h l.spacing.corner_margin r l.i))
