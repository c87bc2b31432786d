-- What `TextJob::read` answers, as `pave_text` goes on from it, and the buffer with zeros behind the text.
use mathlib.Core.Path.{◌≡◌, refl, sym, ◌∙◌, ap}
use mathlib.Core.Bool.{Bool, true, false, ◌||◌}
use mathlib.Core.List.{List, ◌++◌}
use mathlib.Core.Option.{none, some, Option-elim}
use Prim.Native.Nat.{ℕ, ◌-◌, ◌/◌, ◌<◌, ◌≤◌}
use native.Mathlib.Nat.{zero-add, mul-div_cancel}
use native.Mathlib.Omega.{arith}
use lib.Dec.{ltb}
use lib.ListN.{length, replicate, length-map, length-append, length-replicate}
use lib.Seq.{sets}
use borrow.Author.Tests.{ltb-true, lt-ltb, le-ltb}
use Rattle.state.specs.Call.{lent}
use Rattle.state.specs.State.{joined}
use Rattle.state.proofs.Stores.{sets-append, sets_all}
use Rattle.input.specs.Job.{Job, input_number, loop_limit, pair_limit}
use Rattle.rules.specs.Calls.{job_call}
use Rattle.text.specs.Putting.{Put}
use Rattle.job_text.specs.declared.jobs.TextError.{TextError}
use Rattle.job_text.specs.declared.jobs.TextError.TheVariants.{Unreadable, TooMany}
use Rattle.job_text.proofs.Callers.{job_is, too_many_is, unreadable_is}
use Rattle.std.specs.Prelude.{Ok, Err}
use Rattle.job_text.specs.Drawing.{Drawing, loops, job_of}
use Rattle.job_text.specs.Reading.{read_job}
use Rattle.job_text.specs.Answers.{number_of, too_many, job_answer}
use Rattle.job_text.proofs.Storing.{length-coordinates}
use Rattle.answer_text.specs.AnswerText.{answer_text, refused_text}
use Rattle.plate_text.specs.PaveText.{pave_text, text_room, texted, text_call}
use Rattle.plate_text.proofs.Answering.{too_many_loops, too_many_pairs, refused_1}

-- ---- too many

coords_many : (d : Drawing) → length (job_of d).coords / 2 ≡ length (joined (loops d))
unfolding job_of
coords_many d = rw (length-coordinates (joined (loops d))) (mul-div_cancel (length (joined (loops d))) (omega arith))

loops_many : (d : Drawing) → length (job_of d).loops ≡ length (loops d)
unfolding job_of
loops_many d = length-map (loops d) length

pub many_1 : (d : Drawing) → too_many d ≡ true → input_number (job_of d) lent ≡ 1
unfolding too_many
many_1 d h = go (ltb loop_limit (length (loops d))) refl h
  where
    go : (b : Bool) → ltb loop_limit (length (loops d)) ≡ b → (b || ltb pair_limit (length (joined (loops d)))) ≡ true → input_number (job_of d) lent ≡ 1
    go true e h = too_many_loops (job_of d) lent (rw (loops_many d) (ltb-true loop_limit (length (loops d)) e))
    go false e h = too_many_pairs (job_of d) lent (rw (coords_many d) (ltb-true pair_limit (length (joined (loops d))) h))

-- ---- the answers

read_none : (t : List ℕ) → read_job t ≡ none → pave_text t ≡ refused_text 11
unfolding pave_text Option-elim
read_none t e = rw e

read_some : (t : List ℕ) (d : Drawing) → read_job t ≡ some d → pave_text t ≡ answer_text (job_call (job_of d) lent)
unfolding pave_text Option-elim
read_some t d e = rw e

module _ (t : List ℕ) where
  pub refused : (e : TextError) → Err e ≡ job_answer (read_job t) → refused_text (number_of e) ≡ pave_text t
  refused Unreadable r = sym (read_none t (unreadable_is t r))
  refused TooMany r = let m = too_many_is t r in sym (read_some t m.0 m.1 ∙ refused_1 (job_of m.0) lent (many_1 m.0 m.2))

  pub answered : (j : Job) → Ok j ≡ job_answer (read_job t) → answer_text (job_call j lent) ≡ pave_text t
  answered j r =
      let f = job_is t j r in
      ap (λ (x : Job). answer_text (job_call x lent)) f.job ∙ sym (read_some t f.drawing f.is)

-- ---- the buffer

pub short_left : (input out : List ℕ) → length out < text_room → texted 0 out ≡ text_call input out
unfolding text_call
short_left input out h = rw (lt-ltb (length out) text_room h)

pub zeros-behind : (input out mid after : List ℕ) (n : ℕ) → text_room ≤ length out → Put out 0 (pave_text input) mid n → length mid ≡ length out
    → n ≤ length out → after ≡ sets mid n (replicate (length mid - n) 0) → texted n after ≡ text_call input out
unfolding text_call
zeros-behind input out mid after n h w l m e =
    let t : List ℕ = pave_text input in
    let k : n ≡ length t = w.place ∙ zero-add (length t) in
    let z : List ℕ = replicate (length out - length t) 0 in
    let s : after ≡ sets out 0 (t ++ z) = e ∙ rw (l, w.bytes, k) (sym (rw zero-add at (sets-append t z out 0))) in
    let g : length out ≡ length (t ++ z) = rw (length-append, length-replicate) (omega arith) in
    rw (le-ltb (length out) text_room h) (rw (s, sets_all out (t ++ z) g, k))
