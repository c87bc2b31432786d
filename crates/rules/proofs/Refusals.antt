-- Demand 1: every call answers 0 or a listed number, and what a refusal leaves.
use mathlib.Core.Path.{◌≡◌, refl}
use mathlib.Core.Bool.{Bool, true, false, cond}
use mathlib.Core.List.{List, [], ◌∷◌}
use Prim.Native.Nat.{ℕ}
use lib.Dec.{eqb, leb}
use lib.ListN.{length, drop}
use Rattle.state.specs.State.{State, Held, Lengths, lengths, zeros, written, reading}
use Rattle.input.specs.Job.{Job, input_number}
use Rattle.state.specs.Outcome.{Outcome, refused, gives, first_true, test}
use Rattle.sampling.specs.Sample.{sampled, on_job, sample_call}
use Rattle.rules.specs.Row.{next_row}
use Rattle.state.specs.Given.{member, wrong_state}
use Rattle.state.specs.Call.{job_left, state_left, on_state}
use Rattle.rules.specs.RowCall.{row_at, row_call}
use Rattle.rules.specs.Passes.{some_passes}
use Rattle.rules.specs.Calls.{and_then, paved, job_call, close_call, fan_call}
use Rattle.rules.specs.Demands.{job_numbers, sample_numbers, row_numbers, close_numbers, fan_numbers, Listed, Demand1}
use Rattle.rules.proofs.Lists.{or_true_right}
use Rattle.rules.proofs.Numbers.{RefusedIn, refused_in, all_members, member_widen, first_in, chosen_in, input_numbers, input_listed, loop_numbers, sampled_in, row_refusals, row_in, passes_in, closings_in, fan_refusals, fan_in}

pub widen : {A : Type 0} (x : Outcome A) (xs ys : List ℕ) → all_members xs ys ≡ true → RefusedIn xs x → RefusedIn ys x
unfolding RefusedIn
widen x xs ys h p n e = member_widen n xs ys h (p n e)

then_in : (ns : List ℕ) (x : Outcome State) (step : State → Outcome State) → RefusedIn ns x → ((s : State) → RefusedIn ns (step s)) → RefusedIn ns (and_then x step)
unfolding and_then RefusedIn
then_in ns (refused n) step p q = p
then_in ns (gives s) step p q = q s

-- ---- what a refusal leaves

job-left-listed : (l : Lengths) (ns : List ℕ) (x : Outcome State) → RefusedIn ns x → Listed (0 ∷ ns) (zeros l) (job_left l x)
unfolding job_left written member RefusedIn
job-left-listed l ns (refused n) p = record { listed = or_true_right (eqb n 0) (member n ns) (p n refl); refusal = λ f. refl; counts = refl }
job-left-listed l ns (gives s) p = record { listed = refl; refusal = λ f. absurd (f refl); counts = refl }

state_left-listed : (b : Held) (ns : List ℕ) (x : Outcome State) → RefusedIn ns x → Listed (0 ∷ ns) b (state_left b x)
unfolding state_left written member RefusedIn
state_left-listed b ns (refused n) p = record { listed = or_true_right (eqb n 0) (member n ns) (p n refl); refusal = λ f. refl; counts = refl }
state_left-listed b ns (gives s) p = record { listed = refl; refusal = λ f. absurd (f refl); counts = refl }

-- ---- the job

abbrev pub job_refusals : List ℕ
job_refusals = drop 1 job_numbers

loop_job : all_members loop_numbers job_refusals ≡ true
unfolding all_members member
loop_job = refl

full-job : all_members (21 ∷ []) job_refusals ≡ true
unfolding all_members member
full-job = refl

input_job : all_members (0 ∷ input_numbers) (0 ∷ job_refusals) ≡ true
unfolding all_members member
input_job = refl

pub paved_in : (j : Job) → RefusedIn job_refusals (paved j)
unfolding paved
paved_in j =
    then_in job_refusals _ _
    (then_in job_refusals (sampled j) _ (widen (sampled j) loop_numbers job_refusals loop_job (sampled_in j))
    (λ s. widen (some_passes j j.options.max_row_rounds s) (21 ∷ []) job_refusals full-job (passes_in j j.options.max_row_rounds s)))
    (λ s. widen _ (21 ∷ []) job_refusals full-job (closings_in _ s))

-- what a job comes to, before it is written
abbrev job_outcome : Job → Lengths → Outcome State
job_outcome j l = cond (eqb (input_number j l) 0) (paved j) (refused (input_number j l))

job_in : (j : Job) (l : Lengths) → RefusedIn job_refusals (job_outcome j l)
job_in j l = chosen_in (input_number j l) (paved j) job_refusals (member_widen (input_number j l) (0 ∷ input_numbers) (0 ∷ job_refusals) input_job (input_listed j l)) (paved_in j)

job-listed : (j : Job) (l : Lengths) → Listed job_numbers (zeros l) (job_call j l)
unfolding job_call on_job
job-listed j l = job-left-listed l job_refusals (job_outcome j l) (job_in j l)

-- ---- the sample

abbrev sample_refusals : List ℕ
sample_refusals = drop 1 sample_numbers

-- what a sample comes to, before it is written
abbrev sample_outcome : Job → Lengths → Outcome State
sample_outcome j l = cond (eqb (input_number j l) 0) (sampled j) (refused (input_number j l))

loop_sample : all_members loop_numbers sample_refusals ≡ true
unfolding all_members member
loop_sample = refl

input_sample : all_members (0 ∷ input_numbers) (0 ∷ sample_refusals) ≡ true
unfolding all_members member
input_sample = refl

sample_in : (j : Job) (l : Lengths) → RefusedIn sample_refusals (sample_outcome j l)
sample_in j l =
    chosen_in (input_number j l) (sampled j) sample_refusals (member_widen (input_number j l) (0 ∷ input_numbers) (0 ∷ sample_refusals) input_sample (input_listed j l))
    (widen (sampled j) loop_numbers sample_refusals loop_sample (sampled_in j))

sample_listed : (j : Job) (l : Lengths) → Listed sample_numbers (zeros l) (sample_call j l)
unfolding sample_call on_job
sample_listed j l = job-left-listed l sample_refusals (sample_outcome j l) (sample_in j l)

-- ---- the calls on a given state

own25 : all_members (25 ∷ []) (25 ∷ []) ≡ true
unfolding all_members member
own25 = refl

-- the number that the job's input and the state give
abbrev state_number : Job → Held → ℕ
state_number j b = cond (eqb (input_number j (lengths b)) 0) (first_true (test 25 (wrong_state b) ∷ [])) (input_number j (lengths b))

state_in : (j : Job) (b : Held) (ns : List ℕ) → all_members (0 ∷ input_numbers) (0 ∷ ns) ≡ true → all_members (0 ∷ 25 ∷ []) (0 ∷ ns) ≡ true → member (state_number j b) (0 ∷ ns) ≡ true
state_in j b ns h k = go (eqb (input_number j (lengths b)) 0)
  where
    go : (t : Bool) → member (cond t (first_true (test 25 (wrong_state b) ∷ [])) (input_number j (lengths b))) (0 ∷ ns) ≡ true
    go true = member_widen _ (0 ∷ 25 ∷ []) (0 ∷ ns) k (first_in (test 25 (wrong_state b) ∷ []) (25 ∷ []) own25)
    go false = member_widen _ (0 ∷ input_numbers) (0 ∷ ns) h (input_listed j (lengths b))

state_listed : (j : Job) (b : Held) (ns : List ℕ) (step : State → Outcome State) → all_members (0 ∷ input_numbers) (0 ∷ ns) ≡ true → all_members (0 ∷ 25 ∷ []) (0 ∷ ns) ≡ true
    → ((s : State) → RefusedIn ns (step s)) → Listed (0 ∷ ns) b (on_state (input_number j (lengths b)) b step)
unfolding on_state
state_listed j b ns step h k p = state_left-listed b ns _ (chosen_in (state_number j b) (step (reading b)) ns (state_in j b ns h k) (p (reading b)))

abbrev row_only : List ℕ
row_only = drop 1 row_numbers

row_widens : all_members row_refusals row_only ≡ true
unfolding all_members member
row_widens = refl

has20 : member 20 row_only ≡ true
unfolding member
has20 = refl

row_at_in : (j : Job) (li : ℕ) (s : State) → RefusedIn row_only (row_at j li s)
unfolding row_at
row_at_in j li s = go (leb (length s.fronts) li)
  where
    go : (t : Bool) → RefusedIn row_only (cond t (refused 20) (next_row j s li))
    go true = refused_in State row_only 20 has20
    go false = widen (next_row j s li) row_refusals row_only row_widens (row_in j s li)

row_listed : (j : Job) (li : ℕ) (b : Held) → Listed row_numbers b (row_call j li b)
unfolding row_call all_members member
row_listed j li b = state_listed j b row_only (row_at j li) refl refl (row_at_in j li)

abbrev close_only : List ℕ
close_only = drop 1 close_numbers

close_widens : all_members (21 ∷ []) close_only ≡ true
unfolding all_members member
close_widens = refl

close-listed : (j : Job) (b : Held) → Listed close_numbers b (close_call j b)
unfolding close_call all_members member
close-listed j b = state_listed j b close_only _ refl refl (λ s. widen _ (21 ∷ []) close_only close_widens (closings_in _ s))

abbrev fan_only : List ℕ
fan_only = drop 1 fan_numbers

fan_widens : all_members fan_refusals fan_only ≡ true
unfolding all_members member
fan_widens = refl

fan-listed : (j : Job) (b : Held) → Listed fan_numbers b (fan_call j b)
unfolding fan_call all_members member
fan-listed j b = state_listed j b fan_only _ refl refl (λ s. widen _ fan_refusals fan_only fan_widens (fan_in _ j s))

pub demand_1 : Demand1
demand_1 = record { job = job-listed; sample = sample_listed; row = row_listed; close = close-listed; fan = fan-listed }
