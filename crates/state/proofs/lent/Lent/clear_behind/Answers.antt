use Rattle.float.proofs.Literals.{zero_is}
use Rattle.state.proofs.Zeros.{cleared_is}
use Rattle.state.proofs.lent.Lent.clear_behind.Goals as goal

pub returns-clause-written : goal.returns-clause-written
returns-clause-written c =
    cleared_is _ c.requires.sound (rw zero_is at c.fill_from.ensures) c.fill_from-2.ensures (rw (← c.nodes_on-total.ensures) c.fill_from-3.ensures) c.fill_from-4.ensures
