-- `planning::sides::margin_at` meets its contract.
use Rattle.planning.proofs.Measuring.{margin_is}
use Rattle.planning.proofs.sides.margin_at.Goals as goal

pub returns : goal.returns
returns c = margin_is _ _ _ _ _ _ c.sharp_at.ensures c.taken.ensures
