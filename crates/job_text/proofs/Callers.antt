-- What a caller learns from an answer of `TextJob::read`.
use mathlib.Core.Path.{◌≡◌, refl}
use mathlib.Core.Bool.{Bool, true, false, cond}
use mathlib.Core.List.{List}
use mathlib.Core.Option.{Option, none, some}
use Prim.Native.Nat.{ℕ}
use native.Mathlib.Omega.{arith}
use Rattle.input.specs.Job.{Job}
use Rattle.job_text.specs.Drawing.{Drawing, job_of}
use Rattle.job_text.specs.Reading.{read_job}
use Rattle.job_text.specs.Answers.{too_many, job_answer}
use Rattle.job_text.specs.declared.jobs.TextError.{TextError}
use Rattle.job_text.specs.declared.jobs.TextError.TheVariants.{Unreadable, TooMany}
use Rattle.std.specs.Prelude.{Result, Ok, Err}

-- the text is a drawing's, and the job is the drawing's
pub record JobIs (t : List ℕ) (j : Job) : Type 0 where
  pub drawing : Drawing
  pub is : read_job t ≡ some drawing
  pub fits : too_many drawing ≡ false
  pub job : j ≡ job_of drawing

module _ (t : List ℕ) where
  pub job_is : (j : Job) → Ok j ≡ job_answer (read_job t) → JobIs t j
  unfolding job_answer
  job_is j e = by (read_job t) refl e
    where
      with_drawing : (d : Drawing) → read_job t ≡ some d → (m : Bool) → too_many d ≡ m → ◌≡◌ {A = Result Job TextError} (Ok j) (cond m (Err TooMany) (Ok (job_of d))) → JobIs t j
      with_drawing d i true m e = let z : ◌≡◌ {A = ℕ} 0 1 = cc in absurd (omega arith)
      with_drawing d i false m e = record { drawing = d; is = i; fits = m; job = cc }

      by : (o : Option Drawing) → read_job t ≡ o → Ok j ≡ job_answer o → JobIs t j
      by none i e = let z : ◌≡◌ {A = ℕ} 0 1 = cc in absurd (omega arith)
      by (some d) i e = with_drawing d i (too_many d) refl e

  pub too_many_is : Err TooMany ≡ job_answer (read_job t) → (d : Drawing) × (read_job t ≡ some d) × (too_many d ≡ true)
  unfolding job_answer
  too_many_is e = by (read_job t) refl e
    where
      with_drawing : (d : Drawing) → read_job t ≡ some d → (m : Bool) → too_many d ≡ m → ◌≡◌ {A = Result Job TextError} (Err TooMany) (cond m (Err TooMany) (Ok (job_of d))) → (d : Drawing) × (read_job t ≡ some d) × (too_many d ≡ true)
      with_drawing d i true m e = (d, i, m)
      with_drawing d i false m e = let z : ◌≡◌ {A = ℕ} 0 1 = cc in absurd (omega arith)

      by : (o : Option Drawing) → read_job t ≡ o → Err TooMany ≡ job_answer o → (d : Drawing) × (read_job t ≡ some d) × (too_many d ≡ true)
      by none i e = let z : ◌≡◌ {A = ℕ} 0 1 = cc in absurd (omega arith)
      by (some d) i e = with_drawing d i (too_many d) refl e

  pub unreadable_is : Err Unreadable ≡ job_answer (read_job t) → read_job t ≡ none
  unfolding job_answer
  unreadable_is e = by (read_job t) refl e
    where
      with_drawing : (d : Drawing) (m : Bool) → ◌≡◌ {A = Result Job TextError} (Err Unreadable) (cond m (Err TooMany) (Ok (job_of d))) → read_job t ≡ none
      with_drawing d true e = let z : ◌≡◌ {A = ℕ} 0 1 = cc in absurd (omega arith)
      with_drawing d false e = let z : ◌≡◌ {A = ℕ} 0 1 = cc in absurd (omega arith)

      by : (o : Option Drawing) → read_job t ≡ o → Err Unreadable ≡ job_answer o → read_job t ≡ none
      by none i e = i
      by (some d) i e = with_drawing d (too_many d) e
