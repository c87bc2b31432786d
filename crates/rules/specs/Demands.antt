-- The demands, over what the calls return. Statements only; proofs/Demands.antt proves them.
use Rattle.std.specs.Prelude.{ℕ, ◌+◌, ◌-◌, ◌*◌, ◌≤◌, ◌<◌, ◌≡◌, true, false, ◌⊎◌, List, [], ◌∷◌, ◌++◌, length, get_or, take, replicate, Float}
use Rattle.float.specs.Helpers.{decimal}
use Rattle.state.specs.State.{State, Held, Lengths, quad, nodes, zeros, reading}
use Rattle.state.specs.Coordinates.{wrong_coordinate}
use Rattle.input.specs.Job.{Job}
use Rattle.state.specs.Outcome.{Outcome, refused, gives}
use Rattle.sampling.specs.Sample.{sampled, sample_call}
use Rattle.rules.specs.Checks.{quad_passes}
use Rattle.rules.specs.Row.{front, next_row}
use Rattle.state.specs.Given.{member, wrong_state}
use Rattle.state.specs.Call.{Left, number_of, answer_counts}
use Rattle.rules.specs.Passes.{some_passes}
use Rattle.rules.specs.RowCall.{row_call}
use Rattle.rules.specs.Calls.{job_call, close_call, fan_call}
use Rattle.pairs.specs.Pairs.{pair_count}

-- ---- demand 1: every call answers a result, number 0, or a listed number; what a refusal leaves

abbrev pub job_numbers : List ℕ
job_numbers = 0 ∷ 1 ∷ 2 ∷ 3 ∷ 4 ∷ 5 ∷ 6 ∷ 7 ∷ 10 ∷ 21 ∷ []

abbrev pub sample_numbers : List ℕ
sample_numbers = 0 ∷ 1 ∷ 2 ∷ 3 ∷ 4 ∷ 5 ∷ 6 ∷ 7 ∷ 10 ∷ []

abbrev pub row_numbers : List ℕ
row_numbers = 0 ∷ 1 ∷ 2 ∷ 3 ∷ 4 ∷ 5 ∷ 6 ∷ 25 ∷ 20 ∷ 22 ∷ 21 ∷ []

abbrev pub close_numbers : List ℕ
close_numbers = 0 ∷ 1 ∷ 2 ∷ 3 ∷ 4 ∷ 5 ∷ 6 ∷ 25 ∷ 21 ∷ []

abbrev pub fan_numbers : List ℕ
fan_numbers = 0 ∷ 1 ∷ 2 ∷ 3 ∷ 4 ∷ 5 ∷ 6 ∷ 25 ∷ 23 ∷ 24 ∷ 26 ∷ 21 ∷ 27 ∷ []

-- an answer's number is listed, a refusal leaves `before`, and the counts that the caller then holds are the answer's
pub record Listed (numbers : List ℕ) (before : Held) (a : Left) : Type 0 where
  pub listed : member (number_of a) numbers ≡ true
  pub refusal : (number_of a ≡ 0 → ⊥) → a.held ≡ before
  pub counts : a.held.counts ≡ answer_counts before.counts a.answer

-- a refused job or sample leaves zeros in each buffer; a refused row, closing or fan leaves its state unchanged
pub record Demand1 : Type 0 where
  pub job : (j : Job) (l : Lengths) → Listed job_numbers (zeros l) (job_call j l)
  pub sample : (j : Job) (l : Lengths) → Listed sample_numbers (zeros l) (sample_call j l)
  pub row : (j : Job) (li : ℕ) (b : Held) → Listed row_numbers b (row_call j li b)
  pub close : (j : Job) (b : Held) → Listed close_numbers b (close_call j b)
  pub fan : (j : Job) (b : Held) → Listed fan_numbers b (fan_call j b)

-- ---- demand 2: what the contracts equate
--
-- Each public call's contract is one equation of its whole answer (number, counts, every place of every buffer) with a definition:
--   sample with `sample_call` (crate sampling), row with `row_call`, job, closing and fan with `job_call`, `close_call` and `fan_call`.
-- All five stand: `sampling::sample`, `row::row`, `job::job`, `closing::close` and `fan::fan`.

-- ---- demand 3

-- the sampled loops: what Sampling makes of the job's input, numbered from 0 loop after loop
unfoldable pub sampled_loops : Outcome State → List (List ℕ)
sampled_loops (refused n) = []
sampled_loops (gives s) = s.fronts

-- A corner limit for each quad: those of the quads that stood, and the call's own for each quad that it laid behind them, so that the buffers b hold as many.
abbrev pub limits_after : List Float → Float → Held → List Float
limits_after stood limit b = stood ++ replicate (b.counts.quads - length stood) limit

-- every quad passes the corner test on the points, with the limit of the call that laid it, and each pair of nodes counts 0 or 2 times
pub record Tiled (loops : List (List ℕ)) (limits : List Float) (s : State) : Type 0 where
  pub each : length limits ≡ length s.quads
  pub corners : (i : ℕ) → i < length s.quads → quad_passes (get_or limits i (decimal 0 0)) s.points (get_or s.quads i (quad 0 0 0 0)) ≡ true
  pub pairs : (a b : ℕ) → (pair_count loops s a b ≡ 0) ⊎ (pair_count loops s a b ≡ 2)

-- A row, closing or fan call, granted or refused: what the caller held, the corner limit of the call's job, and what the caller holds then.
pub data Called : Held → Float → Held → Type 0 where
  by_row : {b : Held} (j : Job) (li : ℕ) → Called b j.options.corner_limit (row_call j li b).held
  by_closing : {b : Held} (j : Job) → Called b j.options.corner_limit (close_call j b).held
  by_fan : {b : Held} (j : Job) → Called b j.options.corner_limit (fan_call j b).held

-- Any way of using the calls: an accepted job or an accepted sample, then rows, closings and fans of whatever jobs and front numbers, each given back what the
-- caller holds, counts and all. The loops are those of the job or sample that it began with; the limits are those of the calls that laid the quads, one for each.
pub data Reached : List (List ℕ) → List Float → Held → Type 0 where
  by_job : (j : Job) (l : Lengths) → number_of (job_call j l) ≡ 0 → Reached (sampled_loops (sampled j)) (replicate (job_call j l).held.counts.quads j.options.corner_limit) (job_call j l).held
  by_sample : (j : Job) (l : Lengths) → number_of (sample_call j l) ≡ 0 → Reached (sampled_loops (sampled j)) [] (sample_call j l).held
  by_call : {loops : List (List ℕ)} {limits : List Float} {b c : Held} {limit : Float} → Reached loops limits b → Called b limit c → Reached loops (limits_after limits limit c) c

-- a row lays one quad and adds one point for each of the n nodes of the front that it replaces, and sets laid to the quads after it
pub record OneForEach (n : ℕ) (s t : State) : Type 0 where
  pub quads : length t.quads ≡ length s.quads + n
  pub points : nodes t ≡ nodes s + n
  pub laid : t.laid ≡ length t.quads

-- what an accepted job left, b, came of the sampled state and of the state that the passes left of it, before any closing
pub record Laid (j : Job) (b : Held) : Type 0 where
  pub start : State
  pub sampled_is : sampled j ≡ gives start
  pub rows : State
  pub passes_are : some_passes j j.options.max_row_rounds start ≡ gives rows
  -- the answer's points are those of sampling and rows, the sampled ones first, bit for bit
  pub points : (reading b).points ≡ rows.points
  pub sampled_first : take (length start.points) (reading b).points ≡ start.points
  -- the quads laid by rows come first in the list, and laid is their number
  pub laid_is : b.counts.laid ≡ length rows.quads
  pub quads_first : take b.counts.laid (reading b).quads ≡ rows.quads
  -- one for each node of each front replaced: as many as the points that the rows added
  pub one_for_each : nodes rows ≡ nodes start + length rows.quads

-- the same job under another pass limit
abbrev pub under_limit : Job → ℕ → Job
under_limit j n = record {
  coords = j.coords;
  loops = j.loops;
  h = j.h;
  options = record {
    corner_margin = j.options.corner_margin;
    min_edge_fraction = j.options.min_edge_fraction;
    front_gap = j.options.front_gap;
    max_row_rounds = n;
    seam = j.options.seam;
    corner_limit = j.options.corner_limit;
  };
}

-- of two answers, the points and the quads laid by rows of one are the first of the other's
pub record Begins (s t : Held) : Type 0 where
  pub fewer_points : s.counts.points ≤ t.counts.points
  pub fewer_laid : s.counts.laid ≤ t.counts.laid
  pub same_points : take (s.counts.points * 2) s.points ≡ take (s.counts.points * 2) t.points
  pub same_quads : take (s.counts.laid * 4) s.quads ≡ take (s.counts.laid * 4) t.quads

pub record Demand3 : Type 0 where
  -- for a job accepted under two pass limits, the smaller's points and row quads are the first of the larger's
  pub prefix :
      (j : Job) (l : Lengths) (p q : ℕ) → p ≤ q → number_of (job_call (under_limit j p) l) ≡ 0 → number_of (job_call (under_limit j q) l) ≡ 0
      → Begins (job_call (under_limit j p) l).held (job_call (under_limit j q) l).held
  -- in each answer, every quad passing the job's limit
  pub answer : (j : Job) (l : Lengths) → number_of (job_call j l) ≡ 0
      → Tiled (sampled_loops (sampled j)) (replicate (job_call j l).held.counts.quads j.options.corner_limit) (reading (job_call j l).held)
  -- after any fan of it, granted or refused, the job's quads passing the job's limit and the fan's quads the fan's
  pub fan : (j k : Job) (l : Lengths) → number_of (job_call j l) ≡ 0
      → Tiled (sampled_loops (sampled j)) (limits_after (replicate (job_call j l).held.counts.quads j.options.corner_limit) k.options.corner_limit (fan_call k (job_call j l).held).held)
      (reading (fan_call k (job_call j l).held).held)
  -- and after any rows, closings and fans, of an accepted sample too
  pub any_use : {loops : List (List ℕ)} {limits : List Float} {b : Held} → Reached loops limits b → Tiled loops limits (reading b)
  -- a call lays its quads behind those that stood, so each quad's limit stays at its place
  pub behind : {loops : List (List ℕ)} {limits : List Float} {b c : Held} {limit : Float} → Reached loops limits b → Called b limit c
      → take (length (reading b).quads) (reading c).quads ≡ (reading b).quads
  -- what the calls left is taken back: number 25 finds nothing in it, unless a coordinate
  pub taken_back : {loops : List (List ℕ)} {limits : List Float} {b : Held} → Reached loops limits b → wrong_state b ≡ wrong_coordinate (decimal 1000000000 0) (reading b).points
  -- what `job` left, given back to a row, closing or fan call, is never refused with 25
  pub accepted_back : (j : Job) (l : Lengths) → number_of (job_call j l) ≡ 0 → wrong_state (job_call j l).held ≡ false
  -- the quads laid by rows: those of a row, and those of an accepted job
  pub row : (j : Job) (s : State) (li : ℕ) (t : State) → next_row j s li ≡ gives t → OneForEach (length (front s li)) s t
  pub laid : (j : Job) (l : Lengths) → number_of (job_call j l) ≡ 0 → Laid j (job_call j l).held
