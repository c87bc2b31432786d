use Rattle.float.proofs.Literals.{zero_is}
use Rattle.geometry.proofs.Literals.{three_is}
use Rattle.geometry.proofs.corners.sharp_turn.Goals as goal

pub returns-then-dot : goal.returns-then-dot
returns-then-dot c = rw (← zero_is, c.if-dot.true)

pub returns : goal.returns
returns c = rw (← zero_is, c.if-dot.false, three_is)
