-- What a caller holds after any use of the calls: a state that stands, each of its quads passing the limit of the call that laid it.
use mathlib.Core.Path.{◌≡◌, refl, ap, sym, ◌∙◌, subst}
use mathlib.Core.Bool.{Bool, true, false, cond}
use mathlib.Core.List.{List, [], ◌∷◌, ◌++◌, append-nil}
use Prim.Native.Nat.{ℕ, ◌+◌, ◌-◌}
use native.Mathlib.Omega.{arith}
use lib.Dec.{eqb}
use lib.Ieee.{Float}
use lib.ListN.{length, take, replicate, length-append}
use lib.Seq.{take_at}
use Rattle.state.specs.State.{State, Quad, Held, lengths, written, reading}
use Rattle.state.specs.Outcome.{Outcome, refused, gives, first_true, test}
use Rattle.state.specs.Given.{wrong_state}
use Rattle.state.specs.Call.{state_left, on_state}
use Rattle.state.proofs.Outcomes.{not_both}
use Rattle.state.proofs.Written.{reading-written}
use Rattle.input.specs.Job.{Job, input_number}
use Rattle.sampling.specs.Sample.{sampled, sample_call}
use Rattle.rules.specs.RowCall.{row_at, row_call}
use Rattle.rules.specs.Closing.{closings}
use Rattle.rules.specs.Fan.{fan}
use Rattle.rules.specs.Calls.{job_call, close_call, fan_call}
use Rattle.rules.specs.Demands.{sampled_loops, limits_after, Called, by_row, by_closing, by_fan, Reached, by_job, by_sample, by_call}
use Rattle.rules.proofs.Corners.{Passed, none_passed}
use Rattle.rules.proofs.Allowed.{Stands}
use Rattle.rules.proofs.Laying.{Lays, lays_both, laid_passed}
use Rattle.rules.proofs.SampleGood.{sampled_began}
use Rattle.rules.proofs.PassGood.{passes_advance}
use Rattle.rules.proofs.Answers.{Made, closings_lay, fan_lays, row_lays, job_accepted, sample_accepted, paved_made, start_stands, rows_stand}

-- what a caller holds: a state that stands, written, each of its quads passing the limit at its place
pub record Holds (loops : List (List ℕ)) (limits : List Float) (b : Held) : Type 0 where
  pub state : State
  pub held_is : b ≡ written state
  pub stands : Stands loops state
  pub passed : Passed limits state.points state.quads

pub read_back : {loops : List (List ℕ)} {limits : List Float} {b : Held} (h : Holds loops limits b) → reading b ≡ h.state
read_back h = ap reading h.held_is ∙ reading-written h.state h.stands.good.even

written_quads : (s : State) → (written s).counts.quads ≡ length s.quads
unfolding written
written_quads s = refl

quads_counted : {loops : List (List ℕ)} {limits : List Float} {b : Held} (h : Holds loops limits b) → b.counts.quads ≡ length limits
quads_counted h = ap (λ x. x.counts.quads) h.held_is ∙ written_quads h.state ∙ sym h.passed.each

-- a job's quads are laid on none, all with its limit
job-passed : (j : Job) (t : State) (m : Made j t) → Stands (sampled_loops (sampled j)) m.start → Passed (replicate (length t.quads) j.options.corner_limit) t.points t.quads
job-passed j t m g =
    let limit = j.options.corner_limit in
    let laid = lays_both (passes_advance j j.options.max_row_rounds m.start m.rows m.passes_are).lays (closings_lay limit m.rows t m.closings_are) in
    let none = (sampled_began j m.start m.sampled_is).fresh.none in
    let all : length laid.more_quads ≡ length t.quads = sym (ap length laid.quads_are ∙ ap (λ q. length (q ++ laid.more_quads)) none) in
    subst (λ n. Passed (replicate n limit) t.points t.quads) all
    (laid_passed laid (sampled_loops (sampled j)) [] g (rw none (none_passed m.start.points)))

-- what a call leaves of what a caller holds
pub record Follows (loops : List (List ℕ)) (limits : List Float) (b : Held) (limit : Float) (c : Held) : Type 0 where
  pub holds : Holds loops (limits_after limits limit c) c
  pub behind : take (length (reading b).quads) (reading c).quads ≡ (reading b).quads

step_follows : {loops : List (List ℕ)} {limits : List Float} {b : Held} (limit : Float) (input : ℕ) (step : State → Outcome State) → ((s t : State) → step s ≡ gives t → Lays limit s t)
    → Holds loops limits b → Follows loops limits b limit (on_state input b step).held
unfolding on_state state_left
step_follows {loops} {limits} {b} limit input step lays h = go (stepped (eqb number 0)) refl
  where
    number : ℕ
    number = cond (eqb input 0) (first_true (test 25 (wrong_state b) ∷ [])) input

    stepped : Bool → Outcome State
    stepped t = cond t (step (reading b)) (refused number)

    laid : (t : State) (x : Bool) → stepped x ≡ gives t → Lays limit (reading b) t
    laid t true d = lays (reading b) t d
    laid t false d = absurd (not_both d)

    -- a refusal lays none
    same : limits_after limits limit b ≡ limits
    same = let none : b.counts.quads - length limits ≡ 0 = omega (arith, quads_counted h) in rw none (append-nil limits)

    granted : (t : State) → Lays limit (reading b) t → Follows loops limits b limit (written t)
    granted t x =
        let stood : Stands loops (reading b) = rw (read_back h) h.stands in
        let passed : Passed limits (reading b).points (reading b).quads = rw (read_back h) h.passed in
        let after = x.keeps loops stood in
        let back : reading (written t) ≡ t = reading-written t after.good.even in
        let many : length t.quads ≡ length limits + length x.more_quads = ap length x.quads_are ∙ length-append (reading b).quads x.more_quads ∙ ap (λ k. k + length x.more_quads) (sym passed.each) in
        let new : length x.more_quads ≡ (written t).counts.quads - length limits = omega (arith, written_quads t) in
        record {
          holds = record {
            state = t;
            held_is = refl;
            stands = after;
            passed = subst (λ k. Passed (limits ++ replicate k limit) t.points t.quads) new (laid_passed x loops limits stood passed);
          };
          behind = rw (back, x.quads_are) (take_at (reading b).quads x.more_quads (length (reading b).quads) refl);
        }

    go : (x : Outcome State) → stepped (eqb number 0) ≡ x → Follows loops limits b limit (state_left b x).held
    go (refused n) d = record { holds = rw same h; behind = all (reading b).quads }
      where
        all : (qs : List Quad) → take (length qs) qs ≡ qs
        all [] = refl
        all (q ∷ qs) = ap (λ x. q ∷ x) (all qs)
    go (gives t) d = granted t (laid t (eqb number 0) d)

pub call_follows : {loops : List (List ℕ)} {limits : List Float} {b : Held} {limit : Float} {c : Held} → Holds loops limits b → Called b limit c → Follows loops limits b limit c
unfolding row_call close_call fan_call
call_follows h (by_row {b} j li) = step_follows j.options.corner_limit (input_number j (lengths b)) (row_at j li) (row_lays j li) h
call_follows h (by_closing {b} j) = step_follows j.options.corner_limit (input_number j (lengths b)) (closings j.options.corner_limit) (closings_lay j.options.corner_limit) h
call_follows h (by_fan {b} j) = step_follows j.options.corner_limit (input_number j (lengths b)) (fan j.options.corner_limit j) (fan_lays j.options.corner_limit j) h

pub reached_holds : {loops : List (List ℕ)} {limits : List Float} {b : Held} → Reached loops limits b → Holds loops limits b
unfolding job_call sample_call
reached_holds (by_job j l e) =
    let a = job_accepted j l e in
    let m = paved_made j a.state a.made_is in
    record {
      state = a.state;
      held_is = a.held_is;
      stands = (closings_lay j.options.corner_limit m.rows a.state m.closings_are).keeps (sampled_loops (sampled j)) (rows_stand j l a.state a.input m);
      passed = rw (ap (λ b. b.counts.quads) a.held_is ∙ written_quads a.state) (job-passed j a.state m (start_stands j l m.start a.input m.sampled_is));
    }
reached_holds (by_sample j l e) =
    let a = sample_accepted j l e in
    record { state = a.state; held_is = a.held_is; stands = start_stands j l a.state a.input a.made_is; passed = rw (sampled_began j a.state a.made_is).fresh.none (none_passed a.state.points) }
reached_holds (by_call r c) = (call_follows (reached_holds r) c).holds
