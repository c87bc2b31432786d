-- `input::default_limit` meets its contract: the constant's bits are those of document 01's number.
use Rattle.input.specs.Limit.{default_limit}
use Rattle.input.proofs.Literals.{limit_is}
use Rattle.input.proofs.default_limit.Goals as goal

pub returns : goal.returns
unfolding default_limit
returns c = limit_is
