-- What `read_job` stored is the job that the text is.
use mathlib.Core.Path.{◌≡◌, refl, ◌∙◌, ap}
use mathlib.Core.Bool.{Bool, true, false, cond}
use mathlib.Core.List.{List}
use mathlib.Core.Option.{Option, none, some}
use Prim.Native.Nat.{ℕ, ◌*◌, ◌≤◌}
use native.Mathlib.Omega.{arith}
use borrow.Author.Tests.{ltb-false}
use lib.Dec.{ltb}
use lib.Ieee.{Float}
use lib.ListN.{length, take}
use Rattle.input.specs.Job.{Job, job, loop_limit, pair_limit}
use Rattle.input.specs.Defaults.{defaults}
use Rattle.state.specs.State.{joined}
use Rattle.state.proofs.Basics.{or_false}
use Rattle.job_text.specs.Drawing.{Drawing, loops, job_of}
use Rattle.job_text.specs.Reading.{read_job}
use Rattle.job_text.specs.Answers.{too_many, answer_of, drawing_read, JobReadIs, job_answer}
use Rattle.job_text.specs.declared.jobs.JobRead.{JobRead}
use Rattle.job_text.specs.declared.jobs.TextError.{TextError}
use Rattle.job_text.specs.declared.jobs.TextError.TheVariants.{TooMany}
use Rattle.std.specs.Prelude.{Result, Ok, Err}

module _ (t : List ℕ) (c : List Float) (l : List ℕ) where
  -- the job that the buffers begin with
  abbrev pub job_in : JobRead → Job
  job_in j = job (take (j.pairs * 2) c) (take j.loops l) j.size defaults

  abbrev pub with_job : Result JobRead TextError → Result Job TextError
  with_job (Ok j) = Ok (job_in j)
  with_job (Err e) = Err e

  module _ (r : Result JobRead TextError) (h : JobReadIs t c l r) where
    pub job_answered : with_job r ≡ job_answer (read_job t)
    unfolding answer_of job_answer job_of
    job_answered = ap with_job h.answer ∙ by (read_job t) refl
      where
        with_drawing : (d : Drawing) → read_job t ≡ some d → (m : Bool) → too_many d ≡ m → with_job (cond m (Err TooMany) (Ok (drawing_read d))) ≡ cond m (Err TooMany) (Ok (job_of d))
        with_drawing d i true m = refl
        with_drawing d i false m = let held = h.holds d i m in rw (held.coords, held.lengths)

        by : (o : Option Drawing) → read_job t ≡ o → with_job (answer_of o) ≡ job_answer o
        by none i = refl
        by (some d) i = with_drawing d i (too_many d) refl

  pub few_read : (j : JobRead) → JobReadIs t c l (Ok j) → (j.pairs ≤ pair_limit) × (j.loops ≤ loop_limit)
  unfolding answer_of too_many
  few_read j r = by (read_job t) r.answer
    where
      with_drawing : (d : Drawing) (m : Bool) → too_many d ≡ m → ◌≡◌ {A = Result JobRead TextError} (Ok j) (cond m (Err TooMany) (Ok (drawing_read d))) → (j.pairs ≤ pair_limit) × (j.loops ≤ loop_limit)
      with_drawing d true m e = let z : ◌≡◌ {A = ℕ} 0 1 = cc in absurd (omega arith)
      with_drawing d false m e =
          let q : j ≡ drawing_read d = cc in
          let p : j.pairs ≡ length (joined (loops d)) = ap (λ (x : JobRead). x.pairs) q in
          let n : j.loops ≡ length (loops d) = ap (λ (x : JobRead). x.loops) q in
          let both = or_false (ltb loop_limit (length (loops d))) (ltb pair_limit (length (joined (loops d)))) m in
          let a = ltb-false loop_limit (length (loops d)) both.0 in
          let b = ltb-false pair_limit (length (joined (loops d))) both.1 in
          (omega arith, omega arith)

      by : (o : Option Drawing) → Ok j ≡ answer_of o → (j.pairs ≤ pair_limit) × (j.loops ≤ loop_limit)
      by none e = let z : ◌≡◌ {A = ℕ} 0 1 = cc in absurd (omega arith)
      by (some d) e = with_drawing d (too_many d) refl e
