-- `job::call::job` meets its contract.
use mathlib.Core.Path.{◌∙◌, ap}
use Rattle.state.specs.State.{no_counts, zeros}
use Rattle.state.specs.Lent.{held_in, lengths_in}
use Rattle.input.specs.Job.{job_of}
use Rattle.state.proofs.Lending.{lent_long}
use Rattle.job.proofs.Paving.{job_refused, job_given, called, made}
use Rattle.job.proofs.call.job.Goals as goal

pub returns-in-Err-clause-left : goal.returns-in-Err-clause-left
returns-in-Err-clause-left c =
    let j = job_of c.args.job.now in
    let l = lengths_in c.args.lent.now in
    job_refused l _ (made j l) _ c.in-Err.ensures.passed (c.clear.ensures.cleared ∙ ap zeros (lent_long c.pave.ensures.same)) ∙ called j l

pub returns-in-Ok-clause-left : goal.returns-in-Ok-clause-left
returns-in-Ok-clause-left c =
    let j = job_of c.args.job.now in
    let l = lengths_in c.args.lent.now in
    job_given l _ (made j l) (held_in c.pave.new.lent no_counts) c.in-Ok.ensures.passed ∙ called j l
