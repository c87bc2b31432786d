-- `planning::keep::below` meets its contract.
use mathlib.Core.Path.{◌∙◌}
use Rattle.float.proofs.Bounds.{below_by, not_below}
use Rattle.planning.proofs.keep.below.Goals as goal

pub returns-then-d-limit : goal.returns-then-d-limit
returns-then-d-limit c = below_by c.args.limit c.args.d c.if-d-limit.true

pub returns-else-d-limit : goal.returns-else-d-limit
returns-else-d-limit c = c.if-d-limit.false ∙ not_below c.args.limit c.args.d c.if-d-limit.false
