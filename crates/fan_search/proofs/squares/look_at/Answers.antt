use Rattle.geometry.specs.Squares.{least_square}
use Rattle.fan_search.proofs.Literals.{inf_is}
use Rattle.fan_search.proofs.Searching.{least_more}
use Rattle.fan_search.proofs.squares.look_at.Goals as goal
use Rattle.fan_search.proofs.squares.look_at.Goals.{else-square-least, then-square-least}

pub loop-i-init : goal.loop-i-init
unfolding least_square
loop-i-init g c = inf_is

pub loop-i-preserved : goal.loop-i-preserved
loop-i-preserved g c =
    least_more _ _ _ _ _ _ c.loop-i.invariant c.side_square-square.ensures (elim c.if-square-least.branch [ then-square-least w ↦ rw w.if-square-least.true w.least-is | else-square-least w ↦ rw w.if-square-least.false w.least-is ])
