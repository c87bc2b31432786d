-- `pair_counts::sides::lower` meets its contract.
use Rattle.pair_counts.proofs.Ordered.{lower_is}
use Rattle.pair_counts.proofs.sides.lower.Goals as goal

pub returns : goal.returns
returns c = rw c.min.ensures (lower_is c.args.a c.args.b)
