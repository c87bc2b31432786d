-- `crossing::simple::cross_between` meets its contract.
use Rattle.crossing.proofs.Right.{not_crossing}
use Rattle.crossing.proofs.simple.cross_between.Goals as goal

pub returns-else-right_c-right_d : goal.returns-else-right_c-right_d
returns-else-right_c-right_d c =
    rw c.if-right_c-right_d.false (not_crossing _ _ _ _ _ _ c.requires c.if-right_c-right_d.false)
