-- Closing fronts of four and six nodes (`close_small_fronts`). Definitions only.
use Rattle.std.specs.Prelude.{ℕ, zero, suc, ◌+◌, ◌%◌, false, cond, ◌&&◌, ◌||◌, List, [], ◌∷◌, ◌++◌, map, length, get_or, eqb, ltb, Float}
use Rattle.std.specs.Float.{inf}
use Rattle.std.specs.Float.Ieee.{lt}
use Rattle.float.specs.Helpers.{decimal, lesser}
use Rattle.geometry.specs.Rings.{point_at}
use Rattle.geometry.specs.Measures.{quad_area, least_corner}
use Rattle.state.specs.Limits.{quad_limit}
use Rattle.state.specs.State.{State, Quad, quad, joined}
use Rattle.state.specs.Outcome.{Outcome, refused, gives}
use Rattle.rules.specs.Checks.{quad_passes}

-- `signed_quad_area` of a quad on a list of points
abbrev pub area_of : List Float → Quad → Float
area_of pts q = quad_area (point_at pts q.a) (point_at pts q.b) (point_at pts q.c) (point_at pts q.d)

-- a quad turned if its signed area is negative
unfoldable pub turned_quad : List Float → Quad → Quad
turned_quad pts q = cond (lt (area_of pts q) (decimal 0 0)) (quad q.d q.c q.b q.a) q

unfoldable pub least_of : List Float → Quad → Float
least_of pts q = least_corner (point_at pts q.a) (point_at pts q.b) (point_at pts q.c) (point_at pts q.d)

-- four nodes give one quad
unfoldable pub close_four : Float → List Float → List ℕ → List Quad
close_four limit pts f =
    let q = turned_quad pts (quad (get_or f 0 0) (get_or f 1 0) (get_or f 2 0) (get_or f 3 0)) in
    cond (quad_passes limit pts q) (q ∷ []) []

-- Six nodes try three splits (`best_six_closure`). The split at place i joins that node with the one opposite.
abbrev pub sixth : List ℕ → ℕ → ℕ
sixth f i = get_or f (i % 6) 0

unfoldable pub first_half : List Float → List ℕ → ℕ → Quad
first_half pts f i = turned_quad pts (quad (sixth f i) (sixth f (i + 1)) (sixth f (i + 2)) (sixth f (i + 3)))

unfoldable pub second_half : List Float → List ℕ → ℕ → Quad
second_half pts f i = turned_quad pts (quad (sixth f i) (sixth f (i + 3)) (sixth f (i + 4)) (sixth f (i + 5)))

pub record Split : Type 0 where
  pub quads : List Quad
  pub score : Float

-- the best of the first k splits: its least corner value is the greatest, the first on a tie; with no quads while none passes
unfoldable pub best_split : Float → List Float → List ℕ → ℕ → Split
best_split limit pts f zero = record { quads = []; score = inf false }
best_split limit pts f (suc k) =
    let best = best_split limit pts f k in
    let p = first_half pts f k in
    let q = second_half pts f k in
    let score = lesser (least_of pts p) (least_of pts q) in
    cond (quad_passes limit pts p && quad_passes limit pts q && (eqb (length best.quads) 0 || lt best.score score)) (record { quads = p ∷ q ∷ []; score = score }) best

-- the quads that close a front; none when it is kept
unfoldable pub closure : Float → List Float → List ℕ → List Quad
closure limit pts f = cond (eqb (length f) 4) (close_four limit pts f) (cond (eqb (length f) 6) (best_split limit pts f 3).quads [])

-- ---- fronts are visited by number

unfoldable pub kept_fronts : Float → List Float → List (List ℕ) → List (List ℕ)
kept_fronts limit pts [] = []
kept_fronts limit pts (f ∷ fs) = cond (eqb (length (closure limit pts f)) 0) (f ∷ kept_fronts limit pts fs) (kept_fronts limit pts fs)

unfoldable pub closed : Float → State → State
closed limit s =
    let added = joined (map (closure limit s.points) s.fronts) in
    record {
      points = s.points;
      quads = s.quads ++ added;
      fronts = kept_fronts limit s.points s.fronts;
      row_quads = s.row_quads + length added;
      core_quads = s.core_quads;
      row_rounds = s.row_rounds;
      passes = s.passes;
      laid = s.laid;
    }

-- 21: the closings would pass 4,096 quads
unfoldable pub closings : Float → State → Outcome State
closings limit s = let t = closed limit s in cond (ltb quad_limit (length t.quads)) (refused 21) (gives t)
