-- A row: its checks in their order (`next_row`) and what it leaves (`commit_row`). Definitions only.
use Rattle.std.specs.Prelude.{ℕ, ◌+◌, ◌/◌, Bool, not, ◌&&◌, ◌||◌, List, [], ◌∷◌, ◌++◌, length, get_or, set, leb, ltb, Float}
use Rattle.float.specs.Helpers.{decimal}
use Rattle.geometry.specs.F64.{◌⊗◌}
use Rattle.geometry.specs.Rings.{ring_of, node_ring}
use Rattle.geometry.specs.Domain.{rings}
use Rattle.state.specs.Limits.{point_limit, quad_limit}
use Rattle.state.specs.State.{State, nodes, numbered}
use Rattle.state.specs.Outcome.{Outcome, first_true, test, outcome}
use Rattle.input.specs.Job.{Job}
use Rattle.rules.specs.Simple.{is_simple}
use Rattle.rules.specs.Checks.{new_points, all_project, all_inside, all_off_boundary, all_long_enough, all_clear_of_fronts, new_quads, all_corners_pass}

abbrev pub front : State → ℕ → List ℕ
front s li = get_or s.fronts li []

-- the checks that follow the projection, in document 01's order, on the new points `row` of front li
unfoldable pub rest_stands : Job → List Float → List (List ℕ) → ℕ → List Float → Bool
rest_stands j pts fronts li row =
    let outline = rings j.coords j.loops in
    let old = get_or fronts li [] in
    let n = length old in
    all_inside outline row n && all_off_boundary outline (decimal 5 2 ⊗ j.h) row n && all_long_enough (j.options.min_edge_fraction ⊗ j.h) row n
    && all_clear_of_fronts pts fronts li (j.options.front_gap ⊗ j.h) row n && is_simple (ring_of row n) && all_corners_pass j.options.corner_limit pts old row

-- the new points of front li
abbrev pub new_of : Job → List Float → List (List ℕ) → ℕ → List Float
new_of j pts fronts li = let old = get_or fronts li [] in new_points (node_ring pts old) j.h (length old)

-- at least 6 nodes; every node projects; and the rest
unfoldable pub row_stands : Job → List Float → List (List ℕ) → ℕ → Bool
row_stands j pts fronts li =
    let old = get_or fronts li [] in
    leb 6 (length old) && all_project (node_ring pts old) j.h && rest_stands j pts fronts li (new_of j pts fronts li)

-- 22: the row fails one of its checks; 21: it would pass 4,096 points or quads, where `quads` are laid
unfoldable pub row_number : Job → List Float → List (List ℕ) → ℕ → ℕ → ℕ
row_number j pts fronts quads li =
    let n = length (get_or fronts li []) in
    first_true (test 22 (not (row_stands j pts fronts li)) ∷ test 21 (ltb point_limit (length pts / 2 + n) || ltb quad_limit (quads + n)) ∷ [])

-- what an accepted row leaves, its points being `row`: it replaces the front
unfoldable pub committed : State → ℕ → List Float → State
committed s li row =
    let n = length (front s li) in
    record {
      points = s.points ++ row;
      quads = s.quads ++ new_quads s.points (front s li);
      fronts = set s.fronts li (numbered (nodes s) n);
      row_quads = s.row_quads + n;
      core_quads = s.core_quads;
      row_rounds = s.row_rounds + 1;
      passes = s.passes;
      laid = length s.quads + n;
    }

unfoldable pub next_row : Job → State → ℕ → Outcome State
next_row j s li = outcome (row_number j s.points s.fronts (length s.quads) li) (committed s li (new_of j s.points s.fronts li))
