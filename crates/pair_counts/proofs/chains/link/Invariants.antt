-- `pair_counts::chains::link` meets its contract. The invariant: the sides before place i are chained.
use Rattle.pair_counts.specs.Chains.{Linked}
use Rattle.pair_counts.proofs.chains.link.Given as goal

abbrev pub invariant-loop-i : goal.invariant-loop-i
invariant-loop-i l = Linked l.lows l.behind l.first l.i
