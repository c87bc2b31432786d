-- The text of sampled loops, case by case, and that it fits.
use mathlib.Core.Path.{◌≡◌, sym, ◌∙◌, ap}
use mathlib.Core.List.{List}
use mathlib.Core.Option.{none, some, Option-elim}
use Prim.Native.Nat.{ℕ}
use lib.Ieee.{Float}
use lib.ListN.{take}
use Rattle.state.specs.Outcome.{Outcome, refused, gives}
use Rattle.state.specs.declared.Counts.{Counts}
use Rattle.state.specs.State.{Held, cut, reading, no_counts}
use Rattle.state.specs.Call.{held, left, lengths_of, lent, job_left}
use Rattle.state.specs.Sound.{Sound}
use Rattle.input.specs.Job.{Job, input_number}
use Rattle.sampling.specs.Sample.{on_job, sample_call}
use Rattle.job.proofs.Paving.{started, start_sound}
use Rattle.job_text.specs.Drawing.{Drawing, job_of}
use Rattle.job_text.specs.Reading.{read_job}
use Rattle.job_text.specs.Answers.{number_of, job_answer}
use Rattle.job_text.specs.declared.jobs.TextError.{TextError}
use Rattle.job_text.specs.declared.jobs.TextError.TheVariants.{Unreadable, TooMany}
use Rattle.job_text.proofs.Callers.{job_is, too_many_is, unreadable_is}
use Rattle.plate_text.proofs.Texts.{many_1}
use Rattle.std.specs.Prelude.{Ok, Err}
use Rattle.answer_text.specs.AnswerText.{refused_text}
use Rattle.tile_text.specs.TileList.{loops_text}
use Rattle.loop_text.specs.SampledText.{loop_lines, sampled_text}

-- ---- the text by what was read

-- a job that the input refuses with 1
pub refused_1 : (j : Job) → input_number j lent ≡ 1 → loop_lines (sample_call j lent) ≡ refused_text 1
unfolding loop_lines sample_call on_job job_left
refused_1 j h = rw h

pub read_none : (t : List ℕ) → read_job t ≡ none → refused_text 11 ≡ sampled_text t
unfolding sampled_text Option-elim
read_none t e = rw e

pub read_some : (t : List ℕ) (d : Drawing) → read_job t ≡ some d → loop_lines (sample_call (job_of d) lent) ≡ sampled_text t
unfolding sampled_text Option-elim
read_some t d e = rw e

module _ (t : List ℕ) where
  pub refused_is : (e : TextError) → Err e ≡ job_answer (read_job t) → refused_text (number_of e) ≡ sampled_text t
  refused_is Unreadable r = read_none t (unreadable_is t r)
  refused_is TooMany r = let m = too_many_is t r in sym (refused_1 (job_of m.0) (many_1 m.0 m.2)) ∙ read_some t m.0 m.1

  pub sampled : (j : Job) → Ok j ≡ job_answer (read_job t) → loop_lines (sample_call j lent) ≡ sampled_text t
  sampled j r =
      let f = job_is t j r in
      ap (λ (x : Job). loop_lines (sample_call x lent)) f.job ∙ read_some t f.drawing f.is

-- ---- the answer of sampling in the lent buffers

module _ (a : Outcome Counts) (p : List Float) (q n l : List ℕ) (j : Job) (P Q N L : ℕ) (call : left a (held p q n l no_counts) ≡ sample_call j (lengths_of P Q N L)) where
  pub done_sound : (c : Counts) → a ≡ gives c → Sound (held p q n l c)
  done_sound c e =
      let d : left (gives c) (held p q n l no_counts) ≡ sample_call j (lengths_of P Q N L) = rw e at call in
      start_sound j (lengths_of P Q N L) (held p q n l c) (started j (lengths_of P Q N L) c (held p q n l no_counts) d)

pub done_lines : (a : Outcome Counts) (p : List Float) (q n l : List ℕ) (c : Counts) → a ≡ gives c → loops_text (cut (take c.fronts l) n) ≡ loop_lines (left a (held p q n l no_counts))
unfolding loop_lines reading
done_lines a p q n l c e = rw e

pub refused_lines : (a : Outcome Counts) (b : Held) (k : ℕ) → a ≡ refused k → refused_text k ≡ loop_lines (left a b)
unfolding loop_lines
refused_lines a b k e = rw e
