-- `float::lesser` meets its contract.
use Rattle.float.proofs.Choices.{lesser_other, lesser_second, lesser_first}
use Rattle.float.proofs.lesser.Goals as goal

pub returns-then-a : goal.returns-then-a
returns-then-a c = lesser_other _ _ c.if-a.true

pub returns-then-b-a : goal.returns-then-b-a
returns-then-b-a c = lesser_second _ _ c.if-b-a.true

pub returns-else-b-a : goal.returns-else-b-a
returns-else-b-a c = lesser_first _ _ c.if-a.false c.if-b-a.false
