-- `pair_counts::sides::higher` meets its contract.
use Rattle.pair_counts.proofs.Ordered.{higher_is}
use Rattle.pair_counts.proofs.sides.higher.Goals as goal

pub returns : goal.returns
returns c = rw c.max.ensures (higher_is c.args.a c.args.b)
