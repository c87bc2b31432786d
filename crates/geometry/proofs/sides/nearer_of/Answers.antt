use Rattle.geometry.proofs.sides.nearer_of.Goals as goal

pub returns-then-d-best : goal.returns-then-d-best
returns-then-d-best c = rw c.if-d-best.true

pub returns-else-d-best : goal.returns-else-d-best
returns-else-d-best c = rw c.if-d-best.false
