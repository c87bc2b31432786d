-- `pair_counts::tally::count` meets its contract. The invariant: the tally and the rest of the chain give the whole chain.
use Rattle.pair_counts.specs.Chains.{chain}
use Rattle.pair_counts.proofs.Turns.{Counted}
use Rattle.pair_counts.proofs.tally.count.Given as goal

abbrev pub invariant-loop-node : goal.invariant-loop-node
invariant-loop-node l =
    Counted (chain l.fn.chain.behind.now l.fn.chain.highs.now l.fn.chain.place) (chain l.node-iterator.behind.now l.node-iterator.highs.now l.node-iterator.place) l.tally
