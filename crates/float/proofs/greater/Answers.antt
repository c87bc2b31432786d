-- `float::greater` meets its contract.
use Rattle.float.proofs.Choices.{greater_other, greater_second, greater_first}
use Rattle.float.proofs.greater.Goals as goal

pub returns-then-a : goal.returns-then-a
returns-then-a c = greater_other _ _ c.if-a.true

pub returns-then-a-b : goal.returns-then-a-b
returns-then-a-b c = greater_second _ _ c.if-a-b.true

pub returns-else-a-b : goal.returns-else-a-b
returns-else-a-b c = greater_first _ _ c.if-a.false c.if-a-b.false
