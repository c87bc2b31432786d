use mathlib.Core.Path.{◌∙◌, sym}
use native.Mathlib.Omega.{arith}
use Rattle.state.specs.Limits.{point_limit}
use Rattle.pair_counts.proofs.Every.{every_none, every_more, every_not}
use Rattle.pair_counts.proofs.chains.chains_twice.Goals as goal
use Rattle.pair_counts.proofs.chains.chains_twice.Invariants.{passes}

pub loop-place-init : goal.loop-place-init
loop-place-init c =
    (c.requires.first_len.1, every_none (passes c.args.highs.now c.args.behind.now c.args.first.now))

pub returns-then-not-chain_twice : goal.returns-then-not-chain_twice
returns-then-not-chain_twice c =
    sym (every_not _ point_limit c.loop-place.place-index (omega (arith, c.requires.first_len.0)) (sym c.chain_twice.ensures.value ∙ c.if-not-chain_twice.true))

pub loop-place-preserved : goal.loop-place-preserved
loop-place-preserved c =
    (c.chain_twice.ensures.tally_after, every_more _ c.loop-place.place-index c.loop-place.invariant.1 (sym c.chain_twice.ensures.value ∙ c.if-not-chain_twice.false))
