-- `plate_text::put_paved` meets its contract, by what was read.
use mathlib.Core.Path.{ap, ◌∙◌}
use Rattle.state.specs.Call.{lent}
use Rattle.rules.specs.Calls.{job_call}
use Rattle.answer_text.specs.AnswerText.{answer_text}
use Rattle.text.proofs.Midst.{put_same}
use Rattle.plate_text.proofs.Texts.{refused, answered}
use Rattle.plate_text.proofs.put_paved.Goals as goal

pub returns-in-Ok-clause-put : goal.returns-in-Ok-clause-put
returns-in-Ok-clause-put c =
    put_same (ap (λ j. answer_text (job_call j lent)) c.job.ensures ∙ answered _ _ c.in-Ok.ensures.read) c.put_job.ensures.put

pub returns-in-Err-clause-put : goal.returns-in-Err-clause-put
returns-in-Err-clause-put c = put_same (refused _ c.in-Err.error c.in-Err.ensures.read) (rw c.number.ensures at c.put_refused.ensures.put)
