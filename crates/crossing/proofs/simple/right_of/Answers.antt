-- `crossing::simple::right_of` meets its contract.
use Rattle.geometry.proofs.Literals.{tiny_is}
use Rattle.crossing.proofs.simple.right_of.Goals as goal

pub returns : goal.returns
returns c = rw (← tiny_is)
