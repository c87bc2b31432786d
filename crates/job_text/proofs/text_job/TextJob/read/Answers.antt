-- `job_text::text_job::TextJob::read` meets its contract, by what was stored.
use Rattle.std.proofs.Common.{◌≡◌, rules, refl, Err}
use lib.Ieee.{of_bits, round}
use Rattle.job_text.proofs.Holding.{job_answered, few_read}
use Rattle.job_text.proofs.text_job.TextJob.read.Goals as goal

pub returns-in_err-self-inside-clause-read : goal.returns-in_err-self-inside-clause-read
returns-in_err-self-inside-clause-read c =
    let e : c.from_residual.result ≡ Err c.in_err-self-inside.field-0.0 = search rules in
    rw e (job_answered _ _ _ (Err _) c.in_err-self-inside.ensures)

pub returns-in_err-self-inside-clause-none : goal.returns-in_err-self-inside-clause-none
unfolding round of_bits
returns-in_err-self-inside-clause-none c =
    let e : c.from_residual.result ≡ Err c.in_err-self-inside.field-0.0 = search rules in
    rw e refl

pub invariant_of-self-2 : goal.invariant_of-self-2
invariant_of-self-2 c = few_read _ _ _ c.in_ok-self-inside.field-0 c.in_ok-self-inside.ensures

pub returns-clause-read : goal.returns-clause-read
returns-clause-read c = job_answered _ _ _ _ c.in_ok-self-inside.ensures
