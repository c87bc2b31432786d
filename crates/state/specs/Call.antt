-- What a call on lent buffers answers and leaves. Definitions only.
use Rattle.std.specs.Prelude.{ℕ, cond, List, [], ◌∷◌, eqb, Float}
use Rattle.state.specs.Limits.{front_limit, front_node_limit, points_length, quads_length}
use Rattle.state.specs.declared.Counts.{Counts}
use Rattle.state.specs.State.{State, Held, Lengths, zeros, counts_of, written, reading}
use Rattle.state.specs.Outcome.{Outcome, refused, gives, first_true, test}
use Rattle.state.specs.Given.{wrong_state}

-- ---- put together from the slices and the counts of a call

abbrev pub held : List Float → List ℕ → List ℕ → List ℕ → Counts → Held
held p q n l c = record { points = p; quads = q; front_nodes = n; front_lengths = l; counts = c }

abbrev pub lengths_of : ℕ → ℕ → ℕ → ℕ → Lengths
lengths_of p q n l = record { points = p; quads = q; front_nodes = n; front_lengths = l }

-- the lengths of document 01's result buffers
abbrev pub lent : Lengths
lent = lengths_of points_length quads_length front_node_limit front_limit

-- what a call leaves: its answer, the whole content of each buffer, and the counts
pub record Left : Type 0 where
  pub answer : Outcome Counts
  pub held : Held

-- ---- document 01's number for each case of an answer (a call's result as `answered` of Refusals has it), and its counts: a call that is done brings them, and after a refusal the caller has those that he held before

abbrev pub answer_number : Outcome Counts → ℕ
answer_number (gives c) = 0
answer_number (refused n) = n

abbrev pub answer_counts : Counts → Outcome Counts → Counts
answer_counts before (gives c) = c
answer_counts before (refused n) = before

abbrev pub number_of : Left → ℕ
number_of x = answer_number x.answer

-- what is left where these buffers stand after the answer; b has the counts that were held before it
abbrev pub left : Outcome Counts → Held → Left
left a b = record { answer = a; held = held b.points b.quads b.front_nodes b.front_lengths (answer_counts b.counts a) }

-- ---- what a job and a call on a state leave

-- a job: zeros when it is refused, otherwise the state
unfoldable pub job_left : Lengths → Outcome State → Left
job_left l (refused n) = record { answer = refused n; held = zeros l }
job_left l (gives s) = record { answer = gives (counts_of s); held = written s }

-- a row, closing or fan: no refusal changes anything
unfoldable pub state_left : Held → Outcome State → Left
state_left b (refused n) = record { answer = refused n; held = b }
state_left b (gives s) = record { answer = gives (counts_of s); held = written s }

-- the number of the job's input, then 25 for the state, then what `step` makes of the state
unfoldable pub on_state : ℕ → Held → (State → Outcome State) → Left
on_state input b step =
    let number = cond (eqb input 0) (first_true (test 25 (wrong_state b) ∷ [])) input in
    state_left b (cond (eqb number 0) (step (reading b)) (refused number))
