-- `planning::ring::kept_ring` meets its contract.
use Rattle.planning.proofs.Turning.{ring_found}
use Rattle.planning.proofs.ring.kept_ring.Goals as goal

pub returns-clause-found : goal.returns-clause-found
returns-clause-found c =
    λ given e. ring_found c.args.h _ _ given _ _ e (rw c.closeness.ensures at c.unclosed-n.ensures.0) c.turns-back.ensures
