-- The job that a text is: too many loops or points are number 1, and what an accepted job left is sound.
use mathlib.Core.Path.{◌≡◌, refl, sym, ◌∙◌, ap}
use mathlib.Core.Bool.{Bool, true, false, ◌||◌}
use Prim.Native.Nat.{ℕ, ◌/◌, ◌<◌}
use lib.ListN.{length}
use borrow.Author.Tests.{lt-ltb}
use Rattle.state.specs.State.{Lengths, lengths}
use Rattle.state.specs.Outcome.{first_true}
use Rattle.state.specs.Call.{Left, lengths_of, number_of, job_left, lent}
use Rattle.state.specs.Given.{wrong_state}
use Rattle.input.specs.Job.{Job, wrong_shape, input_number, loop_limit, pair_limit}
use Rattle.sampling.specs.Sample.{on_job}
use Rattle.rules.specs.Calls.{job_call}
use Rattle.rules.proofs.Demands as demands
use Rattle.answer_text.specs.AnswerText.{answer_text, refused_text}
use Rattle.answer_text.specs.Fits.{SoundAnswer}
use Rattle.answer_text.proofs.Pieces.{sound_answer}

-- ---- too many

last_true : (b : Bool) → (b || true) ≡ true
last_true true = refl
last_true false = refl

-- the first test of all
first_number : (j : Job) (l : Lengths) → wrong_shape j l ≡ true → input_number j l ≡ 1
unfolding input_number first_true
first_number j l h = rw h

pub too_many_loops : (j : Job) (l : Lengths) → loop_limit < length j.loops → input_number j l ≡ 1
unfolding wrong_shape
too_many_loops j l h = first_number j l (rw (lt-ltb loop_limit (length j.loops) h, last_true))

pub too_many_pairs : (j : Job) (l : Lengths) → pair_limit < length j.coords / 2 → input_number j l ≡ 1
unfolding wrong_shape
too_many_pairs j l h = first_number j l (rw (lt-ltb pair_limit (length j.coords / 2) h, last_true))

pub refused_1 : (j : Job) (l : Lengths) → input_number j l ≡ 1 → answer_text (job_call j l) ≡ refused_text 1
unfolding job_call on_job job_left answer_text
refused_1 j l h = rw h

-- ---- the answer of a job in the lent buffers

-- it is sound
module _ (x : Left) (j : Job) (p q n l : ℕ) (call : x ≡ job_call j (lengths_of p q n l)) where
  pub answer_sound : lengths x.held ≡ lent → SoundAnswer x
  answer_sound e =
      sound_answer x e
      (λ (z : number_of x ≡ 0). ap (λ (y : Left). wrong_state y.held) call ∙ (demands.demand_3).accepted_back j (lengths_of p q n l) (ap number_of (sym call) ∙ z))
