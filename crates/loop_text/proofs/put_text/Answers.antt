-- `loop_text::put_text` meets its contract, by what was read.
use mathlib.Core.Path.{ap, ◌∙◌}
use Rattle.state.specs.Call.{lent}
use Rattle.sampling.specs.Sample.{sample_call}
use Rattle.loop_text.specs.SampledText.{loop_lines}
use Rattle.text.proofs.Midst.{put_same}
use Rattle.loop_text.proofs.Sampling.{refused_is, sampled}
use Rattle.loop_text.proofs.put_text.Goals as goal

pub returns-in-Ok-clause-put : goal.returns-in-Ok-clause-put
returns-in-Ok-clause-put c =
    put_same (ap (λ j. loop_lines (sample_call j lent)) c.job.ensures ∙ sampled _ _ c.in-Ok.ensures.read) c.put_sampled.ensures.put

pub returns-in-Err-clause-put : goal.returns-in-Err-clause-put
returns-in-Err-clause-put c = put_same (refused_is _ c.in-Err.error c.in-Err.ensures.read) (rw c.number.ensures at c.put_refused.ensures.put)
