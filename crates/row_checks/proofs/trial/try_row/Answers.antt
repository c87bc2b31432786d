-- `row_checks::trial::try_row` meets its contract.
use mathlib.Core.Path.{refl}
use Rattle.input.specs.Job.{accepted_of}
use Rattle.state.proofs.Cutting.{part_is}
use Rattle.row_checks.proofs.Standing.{row_is}
use Rattle.row_checks.proofs.trial.try_row.Goals as goal

pub rest_stands-requires-clause-front : goal.rest_stands-requires-clause-front
rest_stands-requires-clause-front c =
    let f = c.args.fronts.now in
    let at = c.front_at-front.ensures in
    (c.requires.room.0, c.ring-old.ensures.points, part_is f.lengths.now f.nodes.now c.args.li c.requires.room.0 f.fits _ _ _ at.0 at.1 c.ring-old.ensures.nodes)

pub returns-clause-row_after : goal.returns-clause-row_after
returns-clause-row_after c =
    let a = c.args in
    let at = c.front_at-front.ensures in
    λ _. row_is (accepted_of a.job.now) a.fronts.now a.quads a.li c.requires.room.0 at.0 at.1 c.ring-old.ensures.nodes c.ring-old.ensures.points _ (c.in_ok-project_row.ensures.row_after refl)
