-- The fan (`fan_fill`). Definitions only.
use Rattle.std.specs.Prelude.{ℕ, zero, suc, ◌+◌, ◌*◌, ◌/◌, ◌%◌, true, false, not, cond, ◌&&◌, ◌||◌, List, [], ◌∷◌, ◌++◌, length, get_or, eqb, ltb, pos, Float}
use Rattle.std.specs.Float.{inf, binary64}
use Rattle.std.specs.Float.Ieee.{of_int, lt, le}
use Rattle.float.specs.Helpers.{decimal, lesser, greater, is_finite}
use Rattle.geometry.specs.F64.{◌⊕◌, ◌⊖◌, ◌⊗◌, ◌⊘◌}
use Rattle.geometry.specs.declared.Point.{Point}
use Rattle.geometry.specs.Rings.{Ring, node_ring}
use Rattle.geometry.specs.Measures.{in_polygon, ring_distance}
use Rattle.geometry.specs.Domain.{rings, contains}
use Rattle.state.specs.Limits.{point_limit, quad_limit}
use Rattle.state.specs.State.{State, Quad, quad, nodes}
use Rattle.input.specs.Job.{Job}
use Rattle.state.specs.Outcome.{Outcome, refused, gives, first_true, test}
use Rattle.rules.specs.Checks.{every, quad_passes}
use Rattle.rules.specs.Closing.{turned_quad}

-- ---- the box of a front's first k points

pub record Box : Type 0 where
  pub left : Float
  pub low : Float
  pub right : Float
  pub high : Float

unfoldable pub box : Ring → ℕ → Box
box r zero = record { left = inf false; low = inf false; right = inf true; high = inf true }
box r (suc k) =
    let b = box r k in
    let p = r.at k in
    record { left = lesser b.left p.x; low = lesser b.low p.y; right = greater b.right p.x; high = greater b.high p.y }

-- ---- the 13 by 13 grid over the box, x outermost, searched for the greatest clearance, the first on a tie

-- the kth of 13 even steps from a to b
abbrev pub grid_step : Float → Float → ℕ → Float
grid_step a b k = a ⊕ (b ⊖ a) ⊗ of_int binary64 (pos k) ⊘ of_int binary64 (pos 12)

abbrev pub grid_point : Box → ℕ → ℕ → Point
grid_point b i j = record { x = grid_step b.left b.right i; y = grid_step b.low b.high j }

pub record Centre : Type 0 where
  pub point : Point
  pub clearance : Float

module _ (outline : List Ring) (r : Ring) (b : Box) where
  -- only points in `Domain::contains` and within the front count
  unfoldable pub try_point : Point → Centre → Centre
  try_point p best =
      let clearance = ring_distance (inf false) p r r.size in
      cond (contains outline p && in_polygon p r && lt best.clearance clearance) (record { point = p; clearance = clearance }) best

  -- the first j points of the grid's column i
  unfoldable pub search_column : ℕ → ℕ → Centre → Centre
  search_column i zero best = best
  search_column i (suc j) best = try_point (grid_point b i j) (search_column i j best)

  -- the first i columns
  unfoldable pub search_grid : ℕ → Centre → Centre
  search_grid zero best = best
  search_grid (suc i) best = search_column i 13 (search_grid i best)

-- the search starts from the middle of the box, with no clearance
abbrev pub start : Box → Centre
start b = record {
  point = record { x = decimal 5 1 ⊗ (b.left ⊕ b.right); y = decimal 5 1 ⊗ (b.low ⊕ b.high) };
  clearance = inf true;
}

unfoldable pub centre : List Ring → Ring → Centre
centre outline r = let b = box r r.size in search_grid outline r b 13 (start b)

-- ---- the quads: the centre is node 0 of each before turning; the others are three front nodes in turn

-- the first k quads of the front f round the node c
unfoldable pub fan_quads : List Float → List ℕ → ℕ → ℕ → List Quad
fan_quads pts f c zero = []
fan_quads pts f c (suc k) =
    let n = length f in
    fan_quads pts f c k ++ (turned_quad pts (quad c (get_or f (2 * k % n) 0) (get_or f ((2 * k + 1) % n) 0) (get_or f ((2 * k + 2) % n) 0)) ∷ [])

-- the fan of the one front f
unfoldable pub fanned : Float → Job → State → List ℕ → Outcome State
fanned limit j s f =
    let n = length f in
    let c = centre (rings j.coords j.loops) (node_ring s.points f) in
    let pts = s.points ++ (c.point.x ∷ c.point.y ∷ []) in
    let added = fan_quads pts f (nodes s) (n / 2) in
    let number =
    first_true
    (test 24 (ltb n 4 || eqb (n % 2) 1)
    ∷ test 26 (not (is_finite c.clearance) || le c.clearance (decimal 0 0))
    ∷ test 21 (ltb point_limit (nodes s + 1) || ltb quad_limit (length s.quads + n / 2))
    ∷ test 27 (not (every (λ i. quad_passes limit pts (get_or added i (quad 0 0 0 0))) (n / 2)))
    ∷ []) in
    cond (eqb number 0)
    (gives
    (record {
      points = pts;
      quads = s.quads ++ added;
      fronts = [];
      row_quads = s.row_quads;
      core_quads = s.core_quads + n / 2;
      row_rounds = s.row_rounds;
      passes = s.passes;
      laid = s.laid;
    }))
    (refused number)

-- with no front it answers done and adds nothing; 23: more than one front
unfoldable pub fan : Float → Job → State → Outcome State
fan limit j s = elim s.fronts [ [] ↦ gives s | f ∷ fs ↦ cond (eqb (length fs) 0) (fanned limit j s f) (refused 23) ]
