-- `planning::sides::taken` meets its contract.
use Rattle.float.proofs.Literals.{zero_is}
use Rattle.planning.proofs.sides.taken.Goals as goal

pub returns-else-sharp : goal.returns-else-sharp
returns-else-sharp c = rw c.if-sharp.false zero_is
