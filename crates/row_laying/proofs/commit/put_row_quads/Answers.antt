use mathlib.Core.Path.{refl, ◌∙◌}
use Rattle.state.specs.State.{joined}
use Rattle.rules.specs.Checks.{row_quads}
use Rattle.row_laying.proofs.Quads.{quads_more}
use Rattle.row_laying.proofs.commit.put_row_quads.Goals as goal

pub loop-i-init : goal.loop-i-init
unfolding row_quads joined
loop-i-init c = (refl, refl)

pub loop-i-preserved : goal.loop-i-preserved
loop-i-preserved c =
    (c.put_quad.auto.quads ∙ c.loop-i.invariant.0, quads_more c.args.quads.now c.loop-i.quads _ c.args.old.now c.args.at c.args.first c.loop-i.i _ _ _ _ _ c.loop-i.invariant.1 c.put_quad.ensures c.next_of-after.ensures.value refl refl c.narrow-c.ensures c.narrow-d.ensures)
