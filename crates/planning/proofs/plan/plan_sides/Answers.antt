-- `planning::plan::plan_sides` meets its contract.
use Rattle.planning.proofs.plan.plan_sides.Goals as goal

pub returns : goal.returns
returns c =
    let measure-sides = c.measure_sides in
    let planned = c.plan_measured.ensures c.args.spacing.corner_margin _ measure-sides.ensures in
    (planned.0, planned.1, measure-sides.ensures.lengths_are, planned.2)
