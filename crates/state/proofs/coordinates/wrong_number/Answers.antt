-- `state::coordinates::wrong_number` meets its contract.
use mathlib.Core.Path.{◌∙◌, sym}
use Rattle.float.proofs.Bounds.{beyond}
use Rattle.state.proofs.coordinates.wrong_number.Goals as goal

pub returns-then-is_finite : goal.returns-then-is_finite
returns-then-is_finite c = c.outside.ensures ∙ beyond _ _ (sym c.is_finite.ensures ∙ c.if-is_finite.true)
