-- `planning::ring::turns` meets its contract: the sign of the area against the one asked for.
use Rattle.float.proofs.Literals.{zero_is}
use Rattle.planning.proofs.ring.turns.Goals as goal

pub returns : goal.returns
returns c = rw (zero_is, c.signed_area.ensures)
