use mathlib.Core.Path.{◌≡◌, ◌∙◌}
use Prim.Native.Nat.{◌<◌}
use lib.ListN.{length}
use native.Mathlib.Omega.{arith}
use Rattle.state.specs.Limits.{point_limit}
use Rattle.pair_counts.proofs.Tallies.{zeros_long}
use Rattle.pair_counts.proofs.Walking.{chain_few, first_small}
use Rattle.pair_counts.proofs.Turns.{count_end, count_start, count_turn}
use Rattle.pair_counts.proofs.tally.count.Goals as goal

pub loop-node-init : goal.loop-node-init
loop-node-init c = rw c.into_iter-node-iterator.ensures.into_iter_gives (count_start _ c.args.tally.now c.requires)

pub bounds-tally-from : goal.bounds-tally-from
bounds-tally-from c =
    let small = first_small _ _ _ c.loop-node.node-iterator.walk c.in-Some.ensures.steps in
    let long : length c.loop-node.tally ≡ point_limit = c.loop-node.auto.tally ∙ zeros_long point_limit c.args.tally.now c.requires in
    omega (arith, c.from.ensures)

pub overflow_add-tally : goal.overflow_add-tally
overflow_add-tally c =
    let small : c.from.result < point_limit = rw c.from.ensures (first_small _ _ _ c.loop-node.node-iterator.walk c.in-Some.ensures.steps) in
    omega (arith, c.loop-node.invariant c.from.result small, chain_few _ _ _ c.args.chain.walk c.from.result)

pub bounds-tally-from-in-loop-node : goal.bounds-tally-from-in-loop-node
bounds-tally-from-in-loop-node c =
    let small = first_small _ _ _ c.loop-node.node-iterator.walk c.in-Some.ensures.steps in
    let long : length c.loop-node.tally ≡ point_limit = c.loop-node.auto.tally ∙ zeros_long point_limit c.args.tally.now c.requires in
    omega (arith, c.from.ensures)

pub loop-node-preserved : goal.loop-node-preserved
loop-node-preserved c =
    let long : length c.loop-node.tally ≡ point_limit = c.loop-node.auto.tally ∙ zeros_long point_limit c.args.tally.now c.requires in
    rw c.from.ensures (count_turn _ _ c.loop-node.tally c.in-Some.ensures.steps long (first_small _ _ _ c.loop-node.node-iterator.walk c.in-Some.ensures.steps) c.loop-node.invariant)

pub returns : goal.returns
returns c = count_end _ _ c.loop-node.tally c.loop-node.invariant c.in-None.ensures.steps.0
