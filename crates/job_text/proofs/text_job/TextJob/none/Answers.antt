-- `job_text::text_job::TextJob::none` meets its contract: nothing of the arrays counts.
use mathlib.Core.Path.{refl}
use lib.Ieee.{of_bits, round}
use Rattle.job_text.proofs.text_job.TextJob.none.Goals as goal

pub returns : goal.returns
unfolding round of_bits
returns c = refl
