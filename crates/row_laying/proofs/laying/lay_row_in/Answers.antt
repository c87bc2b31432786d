-- `row_laying::laying::lay_row_in` meets its contract, by `lay_row` on the lengths copied.
use mathlib.Core.Path.{◌∙◌}
use Rattle.row_laying.proofs.laying.lay_row_in.Goals as goal

pub returns-clause-laid : goal.returns-clause-laid
returns-clause-laid c = rw (c.copy_from_slice.ensures.after ∙ c.read.ensures.front_lengths) at c.lay_row.ensures
