-- `planning::keep::closeness` meets its contract.
use Rattle.planning.proofs.Literals.{milli_is}
use Rattle.planning.proofs.keep.closeness.Goals as goal

pub returns : goal.returns
returns c = rw milli_is
