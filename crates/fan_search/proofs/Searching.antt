-- The search for the fan's centre, one point of the front and one point of the grid a turn.
use mathlib.Core.Path.{◌≡◌, refl}
use mathlib.Core.Bool.{Bool, true, false, cond, ◌&&◌}
use Prim.Native.Nat.{ℕ, ◌+◌}
use native.Mathlib.Numerals.{add-one}
use lib.Ieee.{Float, inf, lt}
use Rattle.float.specs.Helpers.{lesser, greater}
use Rattle.geometry.specs.declared.Point.{Point}
use Rattle.geometry.specs.Rings.{Ring}
use Rattle.geometry.specs.Measures.{in_polygon, ring_distance, short_in_paving}
use Rattle.geometry.specs.Squares.{least_square}
use Rattle.geometry.specs.Domain.{contains}
use Rattle.rules.specs.Fan.{Box, box, Centre, grid_point, try_point, search_column, search_grid}
use Rattle.fan_search.specs.Squares.{side_square}
use mathlib.Core.List.{List}

-- ---- the box

pub box_first : (r : Ring) → record { left = inf false; low = inf false; right = inf true; high = inf true } ≡ box r 0
unfolding box
box_first r = refl

pub box_next : (r : Ring) (i : ℕ) (p : Point) (b : Box) → b ≡ box r i → p ≡ r.at i
    → record { left = lesser b.left p.x; low = lesser b.low p.y; right = greater b.right p.x; high = greater b.high p.y } ≡ box r (i + 1)
unfolding box
box_next r i p b e h = rw (add-one, ← e, ← h)

-- ---- one point tried

fails_second : (a c : Bool) → (a && false && c) ≡ false
fails_second true c = refl
fails_second false c = refl

fails_last : (a b : Bool) → (a && b && false) ≡ false
fails_last true true = refl
fails_last true false = refl
fails_last false b = refl

module _ (outline : List Ring) (r : Ring) (b : Box) (p : Point) (best : Centre) where
  pub nearer : lt best.clearance (ring_distance (inf false) p r r.size) ≡ false → best ≡ try_point outline r b p best
  unfolding try_point
  nearer h = rw (h, fails_last (contains outline p) (in_polygon p r))

  pub outside : contains outline p ≡ false → best ≡ try_point outline r b p best
  unfolding try_point
  outside h = rw h

  module _ (u : Bool) (hu : u ≡ in_polygon p r) where
    pub beyond : u ≡ false → best ≡ try_point outline r b p best
    unfolding try_point
    beyond g = rw (← hu, g, fails_second (contains outline p) (lt best.clearance (ring_distance (inf false) p r r.size)))

    pub farther : (d : Float) → u ≡ true → contains outline p ≡ true → d ≡ ring_distance (inf false) p r r.size → lt best.clearance d ≡ true → record { point = p; clearance = d } ≡ try_point outline r b p best
    unfolding try_point
    farther d g h hd k = rw (← hu, g, h, ← hd, k)

-- ---- the grid

module _ (outline : List Ring) (r : Ring) (b : Box) where
  pub column_none : (i : ℕ) (best : Centre) → best ≡ search_column outline r b i 0 best
  unfolding search_column
  column_none i best = refl

  pub column_more : (i j : ℕ) (p : Point) (best found next : Centre) → p ≡ grid_point b i j → found ≡ search_column outline r b i j best → next ≡ try_point outline r b p found
      → next ≡ search_column outline r b i (j + 1) best
  unfolding search_column
  column_more i j p best found next hp hf hn = rw (add-one, ← hf, ← hp) hn

  pub grid_none : (best : Centre) → best ≡ search_grid outline r b 0 best
  unfolding search_grid
  grid_none best = refl

  pub grid_more : (i : ℕ) (best found next : Centre) → found ≡ search_grid outline r b i best → next ≡ search_column outline r b i 13 found
      → next ≡ search_grid outline r b (i + 1) best
  unfolding search_grid
  grid_more i best found next hf hn = rw (add-one, ← hf) hn

-- ---- one side looked at

pub least_more : (p : Point) (r : Ring) (i : ℕ) (least square after : Float) → least ≡ least_square short_in_paving p (inf false) r i → square ≡ side_square p r i → after ≡ cond (lt square least) square least
    → after ≡ least_square short_in_paving p (inf false) r (i + 1)
unfolding least_square
least_more p r i least square after hl hs ha = rw (add-one, ← hl, ← hs) ha
