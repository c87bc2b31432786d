-- `input::input::wrong_size` meets its contract.
use mathlib.Core.Path.{◌∙◌, sym}
use Rattle.input.specs.Job.{wrong_size}
use Rattle.float.proofs.Literals.{zero_is}
use Rattle.input.proofs.input.wrong_size.Goals as goal

pub returns-then-is_finite : goal.returns-then-is_finite
unfolding wrong_size
returns-then-is_finite c = rw (sym c.is_finite.ensures ∙ c.if-is_finite.true, zero_is)

pub returns : goal.returns
unfolding wrong_size
returns c = rw (sym c.is_finite.ensures ∙ c.if-is_finite.false)
