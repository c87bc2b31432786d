-- `placing::one_loop::sample_kept` meets its contract.
use Rattle.placing.proofs.Numbers.{seven, of_loop}
use Rattle.placing.proofs.one_loop.sample_kept.Goals as goal

pub returns-then-ring-lt3 : goal.returns-then-ring-lt3
returns-then-ring-lt3 c =
    λ given e. seven c.args.spacing.h c.args.spacing.corner_margin c.args.at c.args.ccw given _ (c.kept_ring-ring.ensures.found given e) c.if-ring-lt3.true

pub returns : goal.returns
returns c =
    λ given e.
    of_loop c.args.spacing.h c.args.spacing.corner_margin c.args.at c.args.ccw given _ (c.kept_ring-ring.ensures.found given e) _ _ c.plan_and_place.result c.if-ring-lt3.false c.plan_and_place.ensures
