-- `planning::plan::span_of` meets its contract.
use Rattle.float.proofs.Literals.{zero_is}
use Rattle.planning.proofs.plan.span_of.Goals as goal

pub returns : goal.returns
returns c = rw zero_is at c.greater.ensures
