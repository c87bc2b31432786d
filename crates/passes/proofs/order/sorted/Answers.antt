use mathlib.Core.Path.{refl, ◌∙◌}
use native.Mathlib.Omega.{arith}
use Rattle.state.specs.Limits.{front_limit}
use Rattle.rules.specs.Passes.{ordered}
use Rattle.passes.specs.Order.{length_in}
use Rattle.passes.proofs.Inserting.{places_below, places_more}
use Rattle.passes.proofs.order.sorted.Goals as goal

pub loop-i-init : goal.loop-i-init
unfolding ordered
loop-i-init c = (refl, refl)

pub place_of-at-requires : goal.place_of-at-requires
place_of-at-requires c =
    (omega arith, omega arith, places_below (length_in c.args.lengths.now) c.loop-i.i front_limit c.loop-i.order c.loop-i.invariant.1 (omega arith))

pub loop-i-preserved : goal.loop-i-preserved
loop-i-preserved c =
    (c.put_in.auto.order ∙ c.loop-i.invariant.0, places_more (length_in c.args.lengths.now) c.loop-i.i c.place_of-at.result c.loop-i.order _ c.loop-i.invariant.1 c.place_of-at.ensures.1 c.put_in.ensures)
