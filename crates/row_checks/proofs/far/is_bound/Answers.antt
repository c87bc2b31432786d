-- `row_checks::far::is_bound` meets its contract.
use Rattle.float.proofs.Literals.{zero_is}
use Rattle.row_checks.proofs.far.is_bound.Goals as goal

pub returns : goal.returns
returns c = rw (zero_is, c.root.ensures)
