-- `pair_counts::tally::clear` meets its contract. The invariant: what is not 0 stands on the rest of the chain.
use Rattle.pair_counts.specs.Chains.{chain}
use Rattle.pair_counts.proofs.Turns.{Cleared}
use Rattle.pair_counts.proofs.tally.clear.Given as goal

abbrev pub invariant-loop-node : goal.invariant-loop-node
invariant-loop-node l = Cleared (chain l.node-iterator.behind.now l.node-iterator.highs.now l.node-iterator.place) l.tally
