-- `pair_counts::chain::Chain::next` meets its contract: the node at the place comes first, and the chain goes on behind it.
use mathlib.Core.Path.{◌∙◌}
use Rattle.pair_counts.proofs.Walking.{chain_done, shorter, turn-chain}
use Rattle.pair_counts.proofs.chain.ChainIterator.next.Goals as goal

pub returns-in_err-checked_sub-clause-steps : goal.returns-in_err-checked_sub-clause-steps
returns-in_err-checked_sub-clause-steps c =
    let s = c.args.self.now in
    let none = chain_done s.highs.now s.behind.now s.place c.in_err-checked_sub.ensures in
    rw c.from_residual.ensures (none, none)

pub returns-clause-steps : goal.returns-clause-steps
returns-clause-steps c =
    let s = c.args.self.now in
    turn-chain s.highs.now s.behind.now s.place s.walk _ (c.from-i.ensures ∙ c.in_ok-checked_sub.ensures.1) c.in_ok-checked_sub.ensures.0

pub returns-clause-goes : goal.returns-clause-goes
returns-clause-goes c =
    let s = c.args.self.now in
    let split = turn-chain s.highs.now s.behind.now s.place s.walk _ (c.from-i.ensures ∙ c.in_ok-checked_sub.ensures.1) c.in_ok-checked_sub.ensures.0 in
    record { on = λ f. (tt, tt, shorter split); keeps = tt; rests = λ f. tt }
