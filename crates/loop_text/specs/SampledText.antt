-- From the text of a job to the `s` lines of its sampled loops. Definitions only.
use Rattle.std.specs.Prelude.{ℕ, List}
use Rattle.std.proofs.Math.Option.{Option-elim}
use Rattle.state.specs.declared.Counts.{Counts}
use Rattle.state.specs.Outcome.{Outcome, refused, gives}
use Rattle.state.specs.State.{Held, reading}
use Rattle.state.specs.Call.{Left, lent}
use Rattle.sampling.specs.Sample.{sample_call}
use Rattle.job_text.specs.Drawing.{Drawing, job_of}
use Rattle.job_text.specs.Reading.{read_job}
use Rattle.answer_text.specs.AnswerText.{refused_text}
use Rattle.tile_text.specs.TileList.{loops_text}

-- each loop that sampling left as a front, or the refusal
abbrev pub lines_of : Outcome Counts → Held → List ℕ
lines_of (gives c) b = loops_text (reading b).fronts
lines_of (refused n) b = refused_text n

unfoldable pub loop_lines : Left → List ℕ
loop_lines x = lines_of x.answer x.held

-- number 11 for a text that is no job's, otherwise what sampling makes of the job that it is
unfoldable pub sampled_text : List ℕ → List ℕ
sampled_text t = Option-elim (read_job t) (refused_text 11) (λ (d : Drawing). loop_lines (sample_call (job_of d) lent))
