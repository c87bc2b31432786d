-- `row_checks::trial::rest_stands` meets its contract.
use Rattle.std.proofs.Common.{rules}
use Rattle.input.specs.Job.{accepted_of}
use Rattle.row_checks.proofs.Standing.{in_order}
use Rattle.row_checks.proofs.trial.rest_stands.Goals as goal

pub returns-then-clear_of_fronts : goal.returns-then-clear_of_fronts
returns-then-clear_of_fronts c =
    let p = c.requires.front in
    let checks = in_order (accepted_of c.args.job.now) c.args.fronts.now c.args.li c.args.row.now.pts.now c.requires.even p.0 p.1 p.2 c.requires.row.1 in
    search rules

pub returns-else-clear_of_fronts : goal.returns-else-clear_of_fronts
returns-else-clear_of_fronts c =
    let p = c.requires.front in
    let checks = in_order (accepted_of c.args.job.now) c.args.fronts.now c.args.li c.args.row.now.pts.now c.requires.even p.0 p.1 p.2 c.requires.row.1 in
    search rules
