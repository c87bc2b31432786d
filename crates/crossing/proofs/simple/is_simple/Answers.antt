-- `crossing::simple::is_simple` meets its contract.
use borrow.Author.Tests.{lt-leb, le-leb}
use Rattle.rules.specs.Simple.{is_simple}
use Rattle.crossing.proofs.simple.is_simple.Goals as goal

pub returns-then-n-ge3 : goal.returns-then-n-ge3
unfolding is_simple
returns-then-n-ge3 g c = rw (le-leb _ _ (rw c.size-n.ensures at c.if-n-ge3.true), c.sides_cross.ensures)

pub returns-else-n-ge3 : goal.returns-else-n-ge3
unfolding is_simple
returns-else-n-ge3 g c = rw (← c.size-n.ensures, lt-leb _ _ c.if-n-ge3.false)
