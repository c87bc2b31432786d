-- From the text of a job to the text of its answer. Definitions only.
use Rattle.std.specs.Prelude.{ℕ, cond, List, ltb}
use Rattle.std.proofs.Math.Option.{Option-elim}
use Rattle.std.proofs.Math.ListN as lists
use Rattle.state.specs.State.{padded}
use Rattle.state.specs.Call.{lent}
use Rattle.rules.specs.Calls.{job_call}
use Rattle.job_text.specs.Drawing.{Drawing, job_of}
use Rattle.job_text.specs.Reading.{read_job}
use Rattle.answer_text.specs.AnswerText.{answer_text, refused_text}

-- Number 11 for a text that is no job's, which comes before every other number; otherwise the answer of the job that it is.
unfoldable pub pave_text : List ℕ → List ℕ
pave_text t = Option-elim (read_job t) (refused_text 11) (λ (d : Drawing). answer_text (job_call (job_of d) lent))

-- ---- the call

-- how long a lent buffer must be: no answer's text is longer
abbrev pub text_room : ℕ
text_room = 270336

-- what the call leaves: its result, and the whole content of the buffer
pub record Texted : Type 0 where
  pub result : ℕ
  pub out : List ℕ

abbrev pub texted : ℕ → List ℕ → Texted
texted n out = record { result = n; out = out }

-- A shorter buffer is left as it was, and the result is 0. Otherwise the answer's text with zeros behind it, and the text's length.
unfoldable pub text_call : List ℕ → List ℕ → Texted
text_call input out =
    cond (ltb (lists.length out) text_room) (texted 0 out)
    (texted (lists.length (pave_text input)) (padded (lists.length out) 0 (pave_text input)))
