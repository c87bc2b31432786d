use mathlib.Core.Path.{◌∙◌}
use native.Mathlib.Omega.{arith}
use Rattle.pair_counts.proofs.Walking.{first_small}
use Rattle.pair_counts.proofs.Turns.{clear-turn, clear_end}
use Rattle.pair_counts.proofs.tally.clear.Goals as goal

pub bounds-tally-from : goal.bounds-tally-from
bounds-tally-from c =
    let small = first_small _ _ _ c.loop-node.node-iterator.walk c.in-Some.ensures.steps in
    omega (arith, c.from.ensures, c.loop-node.auto.tally, c.requires.tally_len)

pub loop-node-preserved : goal.loop-node-preserved
loop-node-preserved c =
    rw c.from.ensures (clear-turn _ c.loop-node.tally c.in-Some.ensures.steps (c.loop-node.auto.tally ∙ c.requires.tally_len) (first_small _ _ _ c.loop-node.node-iterator.walk c.in-Some.ensures.steps) c.loop-node.invariant)

pub returns : goal.returns
returns c = clear_end _ c.loop-node.tally (c.loop-node.auto.tally ∙ c.requires.tally_len) c.loop-node.invariant c.in-None.ensures.steps.0
