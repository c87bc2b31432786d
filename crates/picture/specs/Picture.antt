-- The picture of a job's text. Definitions only.
use Rattle.std.specs.Prelude.{ℕ, cond, List, eqb, ltb}
use Rattle.std.proofs.Math.Option.{Option-elim}
use Rattle.std.proofs.Math.ListN as lists
use Rattle.state.specs.Call.{lent}
use Rattle.state.specs.State.{padded}
use Rattle.input.specs.Job.{Job}
use Rattle.rules.specs.Calls.{job_call}
use Rattle.job_text.specs.Drawing.{Drawing, job_of}
use Rattle.job_text.specs.Reading.{read_job}
use Rattle.job_text.specs.Answers.{too_many}
use Rattle.captions.specs.Captions.{words_text}
use Rattle.picture.specs.Plates.{answer_picture}

-- words alone where there is no point: the outer loop then has fewer than three
unfoldable pub job_picture : Job → List ℕ
job_picture j = cond (eqb (lists.length j.coords) 0) (words_text 4) (answer_picture j (job_call j lent))

-- words alone for a text that is no job's, and for one with more loops or points than a job may have
unfoldable pub draw_text : List ℕ → List ℕ
draw_text t = Option-elim (read_job t) (words_text 11) (λ (d : Drawing). cond (too_many d) (words_text 1) (job_picture (job_of d)))

-- ---- the call

-- how long a lent buffer must be: no picture is longer
abbrev pub picture_room : ℕ
picture_room = 1638400

-- what the call leaves: its result, and the whole content of the buffer
pub record Drawn : Type 0 where
  pub result : ℕ
  pub out : List ℕ

abbrev pub drawn_in : ℕ → List ℕ → Drawn
drawn_in n out = record { result = n; out = out }

-- A shorter buffer is left as it was, and the result is 0. Otherwise the picture with zeros behind it, and the picture's length.
unfoldable pub draw_call : List ℕ → List ℕ → Drawn
draw_call input out =
    cond (ltb (lists.length out) picture_room) (drawn_in 0 out)
    (drawn_in (lists.length (draw_text input)) (padded (lists.length out) 0 (draw_text input)))
