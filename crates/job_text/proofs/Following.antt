-- `at` lines as long as they come: what a loop is, and the invariant of the code that reads one.
use mathlib.Core.Path.{◌≡◌, refl, sym, ◌∙◌, ap}
use mathlib.Core.List.{List, [], ◌∷◌}
use mathlib.Core.Option.{Option, none, some, Option-elim}
use Prim.Native.Nat.{ℕ, zero, suc, ◌+◌, ◌*◌, ◌≤◌, zero-le}
use native.Mathlib.Nat.{add-zero}
use native.Mathlib.Omega.{arith}
use lib.Ieee.{Float}
use lib.ListN.{length, drop}
use lib.Seq.{sets}
use Rattle.text.specs.Fields.{behind}
use Rattle.state.specs.State.{joined}
use Rattle.job_text.specs.Drawing.{Place}
use Rattle.job_text.specs.Reading.{Read, read, before, and_then, read_at, read_loop}
use Rattle.job_text.specs.Answers.{place_in, loop_at, coordinates_of, LoopReadIs}
use Rattle.geometry.specs.declared.Point.{Point}
use Rattle.text.specs.declared.read.Read as code
use Rattle.job_text.proofs.Ending.{EndOf, end_length, behind_end, end_place, place_of_end, at_end}
use Rattle.job_text.proofs.Points.{Line}

-- ---- a loop does not turn on how far it may go

loop_none : (k : ℕ) (t : List ℕ) → read_at t ≡ none → read_loop k t ≡ read [] t
unfolding read_loop Option-elim
loop_none zero t e = refl
loop_none (suc k) t e = rw e

empty_none : (t : List ℕ) → length t ≤ 0 → read_at t ≡ none
unfolding read_at and_then behind
empty_none [] h = refl
empty_none (b ∷ t) h = absurd (omega arith)

loop_some : (k : ℕ) (t : List ℕ) {p : Read Place} → read_at t ≡ some p → read_loop (suc k) t ≡ before p.value (read_loop k p.rest)
unfolding read_loop Option-elim
loop_some k t e = rw e

pub loop_enough : (k j : ℕ) (t : List ℕ) → length t ≤ k → length t ≤ j → read_loop k t ≡ read_loop j t
loop_enough zero j t h i = let e = empty_none t h in loop_none zero t e ∙ sym (loop_none j t e)
loop_enough (suc k) zero t h i = let e = empty_none t i in loop_none (suc k) t e ∙ sym (loop_none zero t e)
loop_enough (suc k) (suc j) t h i = by (read_at t) refl (λ r l m. loop_enough k j r l m)
  where
    by : (o : Option (Read Place)) → read_at t ≡ o → ((r : List ℕ) → length r ≤ k → length r ≤ j → read_loop k r ≡ read_loop j r) → read_loop (suc k) t ≡ read_loop (suc j) t
    by none e rec = loop_none (suc k) t e ∙ sym (loop_none (suc j) t e)
    by (some p) e rec =
        let l = end_length (at_end t e) in
        loop_some k t e ∙ ap (before p.value) (rec p.rest (omega arith) (omega arith)) ∙ sym (loop_some j t e)

loop_more : (t : List ℕ) {p : Read Place} → read_at t ≡ some p → read_loop (length t) t ≡ before p.value (read_loop (length p.rest) p.rest)
loop_more t {p} e =
    let l = end_length (at_end t e) in
    loop_enough (length t) (suc (length t)) t (omega arith) (omega arith)
    ∙ loop_some (length t) t e
    ∙ ap (before p.value) (loop_enough (length t) (length p.rest) p.rest (omega arith) (omega arith))

-- ---- it leaves an end of the text, at least a byte for each point before it

pub loop_end : (k : ℕ) (t : List ℕ) → EndOf (length (read_loop k t).value) t (read_loop k t).rest
unfolding read_loop
loop_end zero t = record { skipped = 0; from = zero-le; within = zero-le; is = refl }
loop_end (suc k) t = by (read_at t) refl (λ r. loop_end k r)
  where
    by : (o : Option (Read Place)) → read_at t ≡ o → ((r : List ℕ) → EndOf (length (read_loop k r).value) r (read_loop k r).rest) → EndOf (length (read_loop (suc k) t).value) t (read_loop (suc k) t).rest
    by none e rec = rw (loop_none (suc k) t e) (record { skipped = 0; from = zero-le; within = zero-le; is = refl })
    by (some p) e rec =
        let f = behind_end (at_end t e) (rec p.rest) in
        let from = f.from in
        rw (loop_some k t e) (record { skipped = f.skipped; from = omega arith; within = f.within; is = f.is })

-- ---- where the code is: `count` points read up to place `next`, and what is left gives the rest

pub record Left (t : List ℕ) (at pairs : ℕ) (old new : List Float) (next count : ℕ) : Type 0 where
  pub within : (count + at ≤ next) × (next ≤ length t)
  pub rest : (loop_at t at).rest ≡ (loop_at t next).rest
  pub counted : length (loop_at t at).value ≡ count + length (loop_at t next).value
  pub stored : sets old (pairs * 2) (coordinates_of (loop_at t at).value) ≡ sets new ((pairs + count) * 2) (coordinates_of (loop_at t next).value)

module _ (t : List ℕ) (at pairs : ℕ) (old : List Float) where
  pub left-start : at ≤ length t → Left t at pairs old old at 0
  left-start h = record { within = (omega arith, h); rest = refl; counted = omega arith; stored = rw add-zero }

  module _ (new : List Float) (next count : ℕ) (l : Left t at pairs old new next count) where
    pub left_step : {q : code.Read Point} → Line t next q → (newer : List Float) → newer ≡ sets new ((pairs + count) * 2) (q.value.x ∷ q.value.y ∷ []) → Left t at pairs old newer q.next (count + 1)
    unfolding joined
    left_step {q} f newer e =
        let more : loop_at t next ≡ before f.found.value (loop_at t q.next) = loop_more (drop next t) f.is ∙ rw f.rest in
        let longer = l.counted ∙ ap (λ (r : Read (List Place)). count + length r.value) more in
        let w = l.within in
        let v = f.within in
        let i : (pairs + (count + 1)) * 2 ≡ suc (suc ((pairs + count) * 2)) = omega arith in
        let s : sets new ((pairs + count) * 2) (coordinates_of (loop_at t next).value) ≡ sets newer ((pairs + (count + 1)) * 2) (coordinates_of (loop_at t q.next).value) =
        ap (λ (r : Read (List Place)). sets new ((pairs + count) * 2) (coordinates_of r.value)) more ∙ rw (i, e, f.x_is, f.y_is) in
        record { within = (omega arith, omega arith); rest = l.rest ∙ ap (λ (r : Read (List Place)). r.rest) more; counted = omega arith; stored = l.stored ∙ s }

    pub left_done : read_at (drop next t) ≡ none → LoopReadIs t at pairs old new (record { value = count; next = next })
    unfolding joined
    left_done e =
        let w = l.within in
        let none_left : loop_at t next ≡ read [] (drop next t) = loop_none (length (drop next t)) (drop next t) e in
        let counted = l.counted ∙ ap (λ (r : Read (List Place)). count + length r.value) none_left in
        record {
          next = sym (ap (place_in t) (l.rest ∙ ap (λ (r : Read (List Place)). r.rest) none_left) ∙ place_of_end t next (omega arith));
          count = omega arith;
          stored = sym (l.stored ∙ ap (λ (r : Read (List Place)). sets new ((pairs + count) * 2) (coordinates_of r.value)) none_left);
        }

-- ---- what a loop that was read tells

pub loop_place : (t : List ℕ) (at pairs : ℕ) (old new : List Float) (r : code.Read ℕ) → at ≤ length t → LoopReadIs t at pairs old new r
    → (at + r.value ≤ r.next) × (r.next ≤ length t) × ((loop_at t at).rest ≡ drop r.next t)
loop_place t at pairs old new r h i =
    let p = end_place t at h (loop_end (length (drop at t)) (drop at t)) in
    let n = i.next in
    let c = i.count in
    (omega arith, omega arith, rw n p.2)
