-- The calls as C and Rust callers make them: the options one by one, and the counts as a slice of eight u64, which is the boundary's own. Definitions only.
use Rattle.std.specs.Prelude.{ℕ, Bool, cond, List, [], ◌∷◌, length, get_or, replicate, eqb, Float}
use Rattle.state.specs.declared.Counts.{Counts}
use Rattle.state.specs.State.{Held, Lengths, zeros}
use Rattle.state.specs.Call.{Left, held, number_of}
use Rattle.input.specs.declared.Options.{Options}

abbrev pub options_of : Float → Float → Float → ℕ → Bool → Float → Options
options_of margin edge gap rounds s limit = record {
  corner_margin = margin;
  min_edge_fraction = edge;
  front_gap = gap;
  max_row_rounds = rounds;
  seam = s;
  corner_limit = limit;
}

-- ---- the counts as a slice, in document 01's order

abbrev pub count_list : Counts → List ℕ
count_list c = c.points ∷ c.quads ∷ c.fronts ∷ c.row_quads ∷ c.core_quads ∷ c.row_rounds ∷ c.passes_begun ∷ c.laid ∷ []

abbrev pub counts_from : List ℕ → Counts
counts_from l = record {
  points = get_or l 0 0;
  quads = get_or l 1 0;
  fronts = get_or l 2 0;
  row_quads = get_or l 3 0;
  core_quads = get_or l 4 0;
  row_rounds = get_or l 5 0;
  passes_begun = get_or l 6 0;
  laid = get_or l 7 0;
}

-- ---- what a call leaves: its number, 0 when it is not refused, and the whole content of each of the five slices

pub record Passed : Type 0 where
  pub number : ℕ
  pub points : List Float
  pub quads : List ℕ
  pub front_nodes : List ℕ
  pub front_lengths : List ℕ
  pub counts : List ℕ

abbrev pub passed : ℕ → List Float → List ℕ → List ℕ → List ℕ → List ℕ → Passed
passed n p q f l c = record { number = n; points = p; quads = q; front_nodes = f; front_lengths = l; counts = c }

-- a number, these buffers and this slice of counts
abbrev pub passed_with : ℕ → Held → List ℕ → Passed
passed_with n b c = passed n b.points b.quads b.front_nodes b.front_lengths c

-- what a call left, its counts written into the slice
abbrev pub passed_as : Left → Passed
passed_as x = passed_with (number_of x) x.held (count_list x.held.counts)

-- A call on a job with a slice of c counts: another length than eight is number 1, and all zeros.
unfoldable pub job_passed : Left → Lengths → ℕ → Passed
job_passed x l c = cond (eqb c 8) (passed_as x) (passed_with 1 (zeros l) (replicate c 0))

-- A call on a state in these slices: another length than eight is number 1, and nothing changes.
unfoldable pub state_passed : (Held → Left) → List Float → List ℕ → List ℕ → List ℕ → List ℕ → Passed
state_passed call p q n l c = cond (eqb (length c) 8) (passed_as (call (held p q n l (counts_from c)))) (passed 1 p q n l c)
