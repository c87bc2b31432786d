-- A job's steps one after the other: what each leaves for the next, and the job's answer from the step that ends it.
use mathlib.Core.Path.{◌≡◌, refl, sym, ◌∙◌, ap}
use mathlib.Core.Bool.{Bool, true, false, cond}
use mathlib.Core.List.{List, [], ◌∷◌}
use Prim.Native.Nat.{ℕ, ◌+◌, ◌≤◌}
use native.Mathlib.Omega.{arith}
use borrow.Author.Tests.{eqb-true, ne_eqb}
use lib.Dec.{eqb}
use lib.Ieee.{Float}
use Rattle.geometry.specs.Rings.{Ring}
use Rattle.geometry.specs.Domain.{rings}
use Rattle.state.specs.declared.Counts.{Counts}
use Rattle.state.specs.State.{State, Held, Lengths, zeros, nodes, written, reading}
use Rattle.state.specs.Outcome.{Outcome, refused, gives}
use Rattle.state.specs.Call.{Left, held, left, job_left, state_left}
use Rattle.state.specs.Sound.{Sound, Clean}
use Rattle.state.proofs.Basics.{zero_one}
use Rattle.state.proofs.Outcomes.{gives_same, refused_same, not_both}
use Rattle.state.proofs.Written.{reading-written}
use Rattle.state.proofs.Fitting.{Fit, sound_written, clean-written}
use Rattle.input.specs.Job.{Job, input_number}
use Rattle.input.proofs.Shape.{accepted}
use Rattle.planning.specs.Ring.{loop_ring}
use Rattle.planning.specs.Plan.{planned}
use Rattle.placing.specs.Loop.{sample_loop}
use Rattle.sampling.specs.Sample.{empty, with_loop, sample_from, sampled, on_job, sample_call}
use Rattle.rules.specs.Passes.{some_passes}
use Rattle.rules.specs.Closing.{closings}
use Rattle.rules.specs.Calls.{and_then, paved, job_call}
use Rattle.passes.specs.Passed.{passed, written_of}
use Rattle.rules.proofs.Allowed.{Stands, fronts_below_lem}
use Rattle.rules.proofs.SampleGood.{sampled_stands}
use Rattle.rules.proofs.SampleSizes.{limited}

-- the number of an answer that is done is no refusal's
never : {A : Type 0} {c : Counts} {n : ℕ} → ◌≡◌ {A = Outcome Counts} (gives c) (refused n) → A
never e = let z : ◌≡◌ {A = ℕ} 0 1 = cc in absurd (zero_one z)

-- ---- what a job leaves, from what its steps made

pub job_refused : (l : Lengths) (n : ℕ) (o : Outcome State) (z : Held) → refused n ≡ written_of o → z ≡ zeros l → left (refused n) z ≡ job_left l o
unfolding job_left
job_refused l n (refused m) z e f = rw (refused_same e, f)
job_refused l n (gives s) z e f = absurd (not_both e)

pub job_given : (l : Lengths) (c : Counts) (o : Outcome State) (x : Held) → gives (held x.points x.quads x.front_nodes x.front_lengths c) ≡ written_of o → left (gives c) x ≡ job_left l o
unfolding job_left written
job_given l c (refused m) x e = absurd (not_both (sym e))
job_given l c (gives s) x e = ap (λ (h : Held). left (gives h.counts) h) (gives_same e)

-- ---- the closings

pub closed : (b : Held) (o : Outcome State) (a : Outcome Counts) (x : Held) (c : Counts) → left a x ≡ state_left b o
    → passed a (held x.points x.quads x.front_nodes x.front_lengths c) ≡ written_of o
unfolding state_left
closed b (refused m) (refused n) x c k = let q : ◌≡◌ {A = Outcome Counts} (refused n) (refused m) = ap (λ (y : Left). y.answer) k in ap refused (refused_same q)
closed b (refused m) (gives d) x c k = never (ap (λ (y : Left). y.answer) k)
closed b (gives s) (refused n) x c k = never (sym (ap (λ (y : Left). y.answer) k))
closed b (gives s) (gives d) x c k = ap gives (ap (λ (y : Left). y.held) k)

-- what they answer says what they made of the state
pub state_refused : (b : Held) (o : Outcome State) (n : ℕ) (x : Held) → left (refused n) x ≡ state_left b o → o ≡ refused n
unfolding state_left
state_refused b (refused m) n x k = let q : ◌≡◌ {A = Outcome Counts} (refused n) (refused m) = ap (λ (y : Left). y.answer) k in ap refused (sym (refused_same q))
state_refused b (gives s) n x k = never (sym (ap (λ (y : Left). y.answer) k))

pub state_done : (b : Held) (o : Outcome State) (l : Lengths) (c : Counts) (x : Held) → left (gives c) x ≡ state_left b o → left (gives c) x ≡ job_left l o
unfolding state_left job_left
state_done b (refused m) l c x k = never (ap (λ (y : Left). y.answer) k)
state_done b (gives s) l c x k = k

-- ---- the passes, and what follows

pub refused_first : (o : Outcome State) (step : State → Outcome State) (n : ℕ) → o ≡ refused n → and_then o step ≡ refused n
unfolding and_then
refused_first o step n e = rw e refl

pub given_first : (o : Outcome State) (step : State → Outcome State) (s : State) → o ≡ gives s → step s ≡ and_then o step
unfolding and_then
given_first o step s e = rw e refl

-- ---- a state that stands fits the buffers

stands_fit : {loops : List (List ℕ)} (s : State) → Stands loops s → Fit s
stands_fit s g =
    let a = g.allowed in
    let e = g.good.even in
    record {
      even = omega arith;
      points = a.points;
      quads = a.quads;
      fronts = a.fronts;
      front_nodes = a.front_nodes;
      below = fronts_below_lem (nodes s) s.fronts g.good.low;
      row_quads = omega (arith, a.sums);
      row_rounds = a.rounds;
    }

-- sampling begins no pass
from_none : (h m : Float) (before : ℕ) (ccw : Bool) (s : State) (rs : List Ring) (t : State) → sample_from h m before ccw s rs ≡ gives t → t.passes ≡ s.passes
unfolding sample_from with_loop
from_none h m before ccw s [] t e = ap (λ (u : State). u.passes) (sym (gives_same e))
from_none h m before ccw s (r ∷ rs) t e = go (sample_loop h m before ccw r) refl (λ out d. from_none h m (before + planned h m (loop_ring h ccw r)) false (with_loop s out) rs t d)
  where
    go : (x : Outcome (List Float)) → sample_loop h m before ccw r ≡ x
        → ((out : List Float) → sample_from h m (before + planned h m (loop_ring h ccw r)) false (with_loop s out) rs ≡ gives t → t.passes ≡ s.passes)
        → t.passes ≡ s.passes
    go (refused k) d rest = absurd (not_both (rw (d, sample_from) at e))
    go (gives out) d rest = rest out (rw (d, sample_from) at e)

sampled_none : (j : Job) (s : State) → sampled j ≡ gives s → s.passes ≡ 0
unfolding sampled
sampled_none j s e = from_none j.h j.options.corner_margin 0 true empty (rings j.coords j.loops) s e

-- ---- the steps of a job

module _ (j : Job) (l : Lengths) where
  -- what they make
  abbrev pub made : Outcome State
  made = cond (eqb (input_number j l) 0) (paved j) (refused (input_number j l))

  pub called : job_left l made ≡ job_call j l
  unfolding job_call on_job
  called = refl

  -- a job that its input refuses
  pub input_refused : (n : ℕ) → n ≡ input_number j l → (n ≡ 0 → ⊥) → refused n ≡ made
  input_refused n e some = rw (← e, ne_eqb n 0 some)

  -- a job that sampling refuses
  pub sample_refused : (n : ℕ) (x : Held) → 0 ≡ input_number j l → left (refused n) x ≡ job_left l (sampled j) → refused n ≡ made
  unfolding job_left paved and_then
  sample_refused n x input e = go (sampled j) refl e
    where
      go : (o : Outcome State) → sampled j ≡ o → left (refused n) x ≡ job_left l o → refused n ≡ made
      go (refused m) q k = let a : ◌≡◌ {A = Outcome Counts} (refused n) (refused m) = ap (λ (y : Left). y.answer) k in rw (← input, q, refused_same a)
      go (gives s) q k = never (sym (ap (λ (y : Left). y.answer) k))

  pub loops_refused : (n : ℕ) → 0 ≡ input_number j l → sampled j ≡ refused n → refused n ≡ made
  unfolding paved and_then
  loops_refused n input e = rw (← input, e)

  -- a job that was sampled, and b is what is held then
  pub record Started (b : Held) : Type 0 where
    pub input : input_number j l ≡ 0
    pub state : State
    pub sampled_is : sampled j ≡ gives state
    pub held_is : b ≡ written state

  pub started : (c : Counts) (x : Held) → left (gives c) x ≡ sample_call j l → Started (held x.points x.quads x.front_nodes x.front_lengths c)
  unfolding sample_call on_job job_left
  started c x e = go (eqb (input_number j l) 0) refl (sampled j) refl e
    where
      go : (t : Bool) → eqb (input_number j l) 0 ≡ t → (o : Outcome State) → sampled j ≡ o → left (gives c) x ≡ job_left l (cond t o (refused (input_number j l)))
          → Started (held x.points x.quads x.front_nodes x.front_lengths c)
      go false f o q k = never (ap (λ (y : Left). y.answer) k)
      go true f (refused m) q k = never (ap (λ (y : Left). y.answer) k)
      go true f (gives s) q k = record { input = eqb-true (input_number j l) 0 f; state = s; sampled_is = q; held_is = ap (λ (y : Left). y.held) k }

  module _ (b : Held) (start : Started b) where
    abbrev s : State
    s = start.state

    stands : Stands s.fronts s
    stands = sampled_stands j s start.sampled_is (accepted j l start.input).few

    pub start_sound : Sound b
    start_sound = rw start.held_is (sound_written s (stands_fit s stands))

    pub start-clean : Clean b
    start-clean = rw start.held_is (clean-written s (stands_fit s stands))

    pub start_passes : b.counts.passes_begun + j.options.max_row_rounds ≤ 18446744073709551615
    unfolding written
    start_passes =
        let none : b.counts.passes_begun ≡ 0 = ap (λ (x : Held). x.counts.passes_begun) start.held_is ∙ sampled_none j s start.sampled_is in
        let few = (limited j l start.input).rounds in omega arith

    read-start : reading b ≡ s
    read-start = ap reading start.held_is ∙ reading-written s stands.good.even

    abbrev rows : Outcome State
    rows = some_passes j j.options.max_row_rounds (reading b)

    -- the job from here on
    pub onward : made ≡ and_then rows (closings j.options.corner_limit)
    unfolding paved and_then
    onward = rw (start.input, start.sampled_is, read-start)

    pub passes_refuse : (n : ℕ) → rows ≡ refused n → refused n ≡ made
    passes_refuse n e = sym (onward ∙ refused_first rows (closings j.options.corner_limit) n e)

    pub passes_give : (s : State) → rows ≡ gives s → closings j.options.corner_limit s ≡ made
    passes_give s e = given_first rows (closings j.options.corner_limit) s e ∙ sym onward
