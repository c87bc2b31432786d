-- `planning::keep::close` meets its contract.
use mathlib.Core.Path.{◌≡◌, ◌∙◌, sym}
use lib.Ieee.{lt}
use Rattle.float.specs.Helpers.{absolute}
use Rattle.geometry.specs.F64.{◌⊖◌}
use Rattle.planning.specs.Ring.{close}
use Rattle.planning.proofs.keep.close.Goals as goal

pub returns-then-below : goal.returns-then-below
unfolding close
returns-then-below c =
    let second : c.below-then-below.result ≡ lt (absolute (c.args.a.y ⊖ c.args.b.y)) c.args.limit = c.below-then-below.ensures in
    rw (second, sym c.below.ensures ∙ c.if-below.true)

pub returns-else-below : goal.returns-else-below
unfolding close
returns-else-below c = c.if-below.false ∙ rw (sym c.below.ensures ∙ c.if-below.false)
