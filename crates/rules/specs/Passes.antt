-- The passes of a job (the row loop of `mesh_with_stats_options`). Definitions only.
use Rattle.std.specs.Prelude.{ℕ, zero, suc, ◌+◌, true, false, cond, List, [], ◌∷◌, length, eqb, Float}
use Rattle.std.specs.Float.Ieee.{lt}
use Rattle.geometry.specs.Rings.{node_ring}
use Rattle.geometry.specs.Measures.{front_length}
use Rattle.state.specs.State.{State}
use Rattle.input.specs.Job.{Job}
use Rattle.state.specs.Outcome.{Outcome, refused, gives}
use Rattle.rules.specs.Row.{front, next_row}

-- ---- the order of a pass: by `front_length`, equal lengths in front order

-- front i goes behind every front that is not longer
unfoldable pub inserted : (ℕ → Float) → ℕ → List ℕ → List ℕ
inserted length i [] = i ∷ []
inserted length i (k ∷ ks) = cond (lt (length i) (length k)) (i ∷ k ∷ ks) (k ∷ inserted length i ks)

-- the first n fronts in order
unfoldable pub ordered : (ℕ → Float) → ℕ → List ℕ
ordered length zero = []
ordered length (suc n) = inserted length n (ordered length n)

abbrev pub front_length_at : State → ℕ → Float
front_length_at s i = front_length (node_ring s.points (front s i))

unfoldable pub pass_order : State → List ℕ
pass_order s = ordered (front_length_at s) (length s.fronts)

-- ---- a pass: each front gets one `next_row`; a row that fails its checks leaves its front, one that meets 21 refuses the job

unfoldable pub rows_in_order : Job → List ℕ → State → Outcome State
rows_in_order j [] s = gives s
rows_in_order j (li ∷ rest) s = elim (next_row j s li) [ refused n ↦ cond (eqb n 21) (refused 21) (rows_in_order j rest s) | gives t ↦ rows_in_order j rest t ]

abbrev pub begun : State → State
begun s = record {
  points = s.points;
  quads = s.quads;
  fronts = s.fronts;
  row_quads = s.row_quads;
  core_quads = s.core_quads;
  row_rounds = s.row_rounds;
  passes = s.passes + 1;
  laid = s.laid;
}

unfoldable pub one_pass : Job → State → Outcome State
one_pass j s = rows_in_order j (pass_order s) (begun s)

-- at most n passes; a pass that adds no row is the last
unfoldable pub some_passes : Job → ℕ → State → Outcome State
some_passes j zero s = gives s
some_passes j (suc n) s = elim (one_pass j s) [ refused k ↦ refused k | gives t ↦ elim (eqb t.row_rounds s.row_rounds) [ true ↦ gives t | false ↦ some_passes j n t ] ]
