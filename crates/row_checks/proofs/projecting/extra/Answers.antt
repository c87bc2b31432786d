-- `row_checks::projecting::extra` meets its contract.
use Rattle.geometry.proofs.Literals.{zero_is}
use Rattle.row_checks.proofs.Literals.{quarter_is}
use Rattle.row_checks.proofs.projecting.extra.Goals as goal

pub returns-then-sharp_turn : goal.returns-then-sharp_turn
returns-then-sharp_turn c = rw (← c.sharp_turn.ensures, c.if-sharp_turn.true, ← zero_is, ← quarter_is, c.if-cross.true)

pub returns-else-sharp_turn : goal.returns-else-sharp_turn
returns-else-sharp_turn c = rw (← c.sharp_turn.ensures, c.if-sharp_turn.false, ← zero_is, c.if-cross.true)

pub returns-else-cross : goal.returns-else-cross
returns-else-cross c = rw (← zero_is, c.if-cross.false)
