use mathlib.Core.Path.{◌≡◌}
use mathlib.Core.List.{[]}
use native.Mathlib.Nat.{zero-add}
use lib.ListN.{get_or, take}
use Rattle.state.specs.State.{reading}
use Rattle.state.specs.Lent.{held_in}
use Rattle.fan.proofs.OneFront.{front_within, front_is}
use Rattle.fan.proofs.step.try_on.Goals as goal

pub ring-front-requires : goal.ring-front-requires
ring-front-requires c = rw (c.fronts.ensures.lengths, zero-add) (front_within _ c.requires.sound c.requires.one _ c.from-n.ensures)

pub returns : goal.returns
unfolding reading
returns c =
    let front : take c.from-n.result c.args.lent.now.front_nodes.now ≡ get_or (reading (held_in c.args.lent.now c.args.counts)).fronts 0 [] = front_is _ c.requires.sound c.requires.one _ c.from-n.ensures in
    rw (← front, ← c.fronts.ensures.nodes, ← c.ring-front.ensures.nodes, ← c.fronts.ensures.points, ← c.ring-front.ensures.points) c.try_fan.ensures
