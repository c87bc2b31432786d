-- `float::clamp_unit` meets its contract: std's definition is this one, with the literals' bits.
use mathlib.Core.Path.{◌∙◌}
use Rattle.float.specs.Helpers.{clamp_unit}
use Rattle.float.proofs.Literals.{zero_is, one_is}
use Rattle.float.proofs.clamp_unit.Goals as goal

pub returns : goal.returns
unfolding clamp_unit
returns c = c.clamp.ensures.value ∙ rw (zero_is, one_is)
