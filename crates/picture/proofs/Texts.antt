-- What `TextJob::read` answers, as `draw_text` goes on from it, and the buffer with zeros behind the picture.
use mathlib.Core.Path.{◌≡◌, refl, ◌∙◌, ap}
use mathlib.Core.Bool.{false}
use mathlib.Core.List.{List, [], ◌∷◌, map}
use mathlib.Core.Option.{some, Option-elim}
use Prim.Native.Nat.{ℕ, ◌-◌, ◌*◌, ◌<◌, ◌≤◌}
use native.Mathlib.Nat.{zero-add}
use native.Mathlib.Omega.{arith}
use lib.ListN.{length, replicate, length-map, length-append}
use lib.Dec.{ltb}
use lib.Seq.{sets}
use borrow.Author.Tests.{lt-ltb, le-ltb, ltb-false, eq-eqb, ne_eqb}
use Rattle.geometry.specs.Domain.{sum_of}
use Rattle.state.specs.Call.{lent}
use Rattle.state.specs.State.{joined}
use Rattle.state.proofs.Basics.{or_false}
use Rattle.input.specs.Job.{Job, loop_limit, pair_limit}
use Rattle.rules.specs.Calls.{job_call}
use Rattle.text.specs.Putting.{Put}
use Rattle.text.proofs.Midst.{zeros-behind}
use Rattle.job_text.specs.Drawing.{Place, Drawing, loops, job_of}
use Rattle.job_text.specs.Reading.{read_job}
use Rattle.job_text.specs.Answers.{number_of, too_many, job_answer}
use Rattle.job_text.specs.declared.jobs.TextError.{TextError}
use Rattle.job_text.specs.declared.jobs.TextError.TheVariants.{Unreadable, TooMany}
use Rattle.std.specs.Prelude.{Ok, Err}
use Rattle.job_text.proofs.Storing.{length-coordinates}
use Rattle.job_text.proofs.Callers.{job_is, too_many_is, unreadable_is}
use Rattle.captions.specs.Captions.{words_text}
use Rattle.picture.specs.Plates.{answer_picture, Few}
use Rattle.picture.specs.Picture.{job_picture, draw_text, picture_room, drawn_in, draw_call}

-- ---- a job

module _ (j : Job) where
  pub no_point : length j.coords ≡ 0 → words_text 4 ≡ job_picture j
  unfolding job_picture
  no_point h = rw (eq-eqb (length j.coords) 0 h)

  pub some-point : (length j.coords ≡ 0 → ⊥) → answer_picture j (job_call j lent) ≡ job_picture j
  unfolding job_picture
  some-point h = rw (ne_eqb (length j.coords) 0 h)

-- ---- a text

-- as many points as the loops have
points_sum : (ls : List (List Place)) → sum_of (map length ls) ≡ length (joined ls)
unfolding sum_of joined
points_sum [] = refl
points_sum (l ∷ ls) = let i = points_sum ls in let a = length-append l (joined ls) in omega arith

few_points : (d : Drawing) → sum_of (job_of d).loops * 2 ≤ length (job_of d).coords
unfolding job_of
few_points d = let s = points_sum (loops d) in let c = length-coordinates (joined (loops d)) in omega arith

drawing_few : (d : Drawing) → too_many d ≡ false → Few (job_of d).coords (job_of d).loops
unfolding job_of too_many
drawing_few d m =
    let both = or_false (ltb loop_limit (length (loops d))) (ltb pair_limit (length (joined (loops d)))) m in
    let a = ltb-false loop_limit (length (loops d)) both.0 in
    let b = ltb-false pair_limit (length (joined (loops d))) both.1 in
    let c = length-coordinates (joined (loops d)) in
    let l = length-map (loops d) length in
    record { coords = omega arith; loops = omega arith; points = few_points d }

module _ (t : List ℕ) where
  pub refused : (e : TextError) → Err e ≡ job_answer (read_job t) → words_text (number_of e) ≡ draw_text t
  unfolding draw_text Option-elim
  refused Unreadable is = let n = unreadable_is t is in rw n
  refused TooMany is = let m = too_many_is t is in rw (m.1, m.2)

  read_some : (d : Drawing) → read_job t ≡ some d → too_many d ≡ false → job_picture (job_of d) ≡ draw_text t
  unfolding draw_text Option-elim
  read_some d i m = rw (i, m)

  module _ (j : Job) (is : Ok j ≡ job_answer (read_job t)) where
    pub job-drawn : job_picture j ≡ draw_text t
    job-drawn = let f = job_is t j is in ap job_picture f.job ∙ read_some f.drawing f.is f.fits

    pub job_few : Few j.coords j.loops
    job_few = let f = job_is t j is in rw f.job (drawing_few f.drawing f.fits)

-- ---- the buffer

pub short_left : (input out : List ℕ) → length out < picture_room → drawn_in 0 out ≡ draw_call input out
unfolding draw_call
short_left input out h = rw (lt-ltb (length out) picture_room h)

pub drawn-whole : (input out mid after : List ℕ) (n : ℕ) → picture_room ≤ length out → Put out 0 (draw_text input) mid n → n ≤ picture_room
    → after ≡ sets mid n (replicate (length mid - n) 0) → drawn_in n after ≡ draw_call input out
unfolding draw_call
drawn-whole input out mid after n h w k e =
    let p : n ≡ length (draw_text input) = w.place ∙ zero-add (length (draw_text input)) in
    let z = zeros-behind w (omega arith) e in
    rw (le-ltb (length out) picture_room h) (rw (z, p))
