use mathlib.Core.Path.{refl}
use Rattle.geometry.specs.Squares.{least_square}
use Rattle.geometry.proofs.Steps.{square_step}
use Rattle.geometry.proofs.rings.least_square.Goals as goal

pub loop-i-init : goal.loop-i-init
unfolding least_square
loop-i-init g c = refl

pub loop-i-preserved : goal.loop-i-preserved
loop-i-preserved g c =
    square_step _ _ _ _ (record { first = c.at-a.ensures; second = rw (← c.size-n.ensures, ← c.next_of.ensures.value) c.at-b.ensures }) _ _ _ _ _ _ _ refl c.loop-i.invariant c.segment_square.ensures c.nearer_of-least.ensures
