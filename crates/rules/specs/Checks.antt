-- The checks of a candidate row (`next_row`), each over what it reads: points, fronts and the new points `row`. Definitions only.
use Rattle.std.specs.Prelude.{ℕ, zero, suc, ◌+◌, ◌/◌, Bool, true, false, not, ◌&&◌, ◌||◌, List, [], ◌∷◌, ◌++◌, length, get_or, eqb, Float}
use Rattle.std.specs.Float.{inf}
use Rattle.std.specs.Float.Ieee.{lt}
use Rattle.geometry.specs.Rings.{Ring, point_at, next, prev, node_ring}
use Rattle.geometry.specs.Measures.{side_length, ring_distance, corners_pass}
use Rattle.geometry.specs.Domain.{contains, distance_to_boundary}
use Rattle.state.specs.State.{Quad, quad}
use Rattle.rules.specs.declared.Projection.{Projection}
use Rattle.rules.specs.Projecting.{project, projection_number, projection_values}

-- p holds at each place below k
unfoldable pub every : (ℕ → Bool) → ℕ → Bool
every p zero = true
every p (suc k) = every p k && p k

-- the corner test of a quad on a list of points
unfoldable pub quad_passes : Float → List Float → Quad → Bool
quad_passes limit pts q = corners_pass limit (point_at pts q.a) (point_at pts q.b) (point_at pts q.c) (point_at pts q.d)

-- ---- the candidate row

abbrev pub projection : Ring → Float → ℕ → Projection
projection r h i = project (r.at (prev r.size i)) (r.at i) (r.at (next r.size i)) h

-- the projections of the first k nodes
unfoldable pub new_points : Ring → Float → ℕ → List Float
new_points r h zero = []
new_points r h (suc k) = new_points r h k ++ projection_values (projection r h k)

-- the quads are old i, old i+1, new i+1, new i; the new nodes are numbered from `first`
unfoldable pub row_quads : List ℕ → ℕ → ℕ → List Quad
row_quads old first zero = []
row_quads old first (suc k) =
    let n = length old in
    row_quads old first k ++ (quad (get_or old k 0) (get_or old (next n k) 0) (first + next n k) (first + k) ∷ [])

-- ---- the checks

-- every node of the ring projects
abbrev pub all_project : Ring → Float → Bool
all_project r h = every (λ i. eqb (projection_number (projection r h i)) 0) r.size

abbrev pub all_inside : List Ring → List Float → ℕ → Bool
all_inside outline row n = every (λ i. contains outline (point_at row i)) n

abbrev pub all_off_boundary : List Ring → Float → List Float → ℕ → Bool
all_off_boundary outline least row n = every (λ i. not (lt (distance_to_boundary outline (point_at row i)) least)) n

abbrev pub all_long_enough : Float → List Float → ℕ → Bool
all_long_enough least row n = every (λ i. not (lt (side_length (point_at row i) (point_at row (next n i))) least)) n

-- no new point is nearer than `least` to the front f; to a front other than front li
abbrev pub all_clear_of : List Float → List ℕ → Float → List Float → ℕ → Bool
all_clear_of pts f least row n = every (λ i. not (lt (ring_distance (inf false) (point_at row i) (node_ring pts f) (length f)) least)) n

abbrev pub all_clear_of_fronts : List Float → List (List ℕ) → ℕ → Float → List Float → ℕ → Bool
all_clear_of_fronts pts fronts li least row n = every (λ other. eqb other li || all_clear_of pts (get_or fronts other []) least row n) (length fronts)

-- each quad of the row passes the corner test on the old points and the new ones behind them
abbrev pub new_quads : List Float → List ℕ → List Quad
new_quads pts old = row_quads old (length pts / 2) (length old)

abbrev pub all_corners_pass : Float → List Float → List ℕ → List Float → Bool
all_corners_pass limit pts old row = every (λ i. quad_passes limit (pts ++ row) (get_or (new_quads pts old) i (quad 0 0 0 0))) (length old)
