-- The measures of a front, for all node numbers. Definitions only.
use Rattle.std.specs.Prelude.{ℕ, ◌/◌, Bool, true, false, cond, ◌&&◌, List, [], ◌∷◌, length, ltb, Float}
use Rattle.std.specs.Float.{inf, nan}
use Rattle.geometry.specs.declared.Point.{Point}
use Rattle.geometry.specs.Rings.{node_ring}
use Rattle.geometry.specs.Measures.{front_length, in_polygon, ring_distance}

-- whether every number is below n
unfoldable pub all_below : ℕ → List ℕ → Bool
all_below n [] = true
all_below n (m ∷ ms) = ltb m n && all_below n ms

-- whether every node number is that of a point
unfoldable pub nodes_fit : List Float → List ℕ → Bool
nodes_fit p nodes = all_below (length p / 2) nodes

unfoldable pub length_or : List Float → List ℕ → Float
length_or p nodes = cond (nodes_fit p nodes) (front_length (node_ring p nodes)) nan

unfoldable pub distance_or : Point → List Float → List ℕ → Float
distance_or q p nodes = cond (nodes_fit p nodes) (ring_distance (inf false) q (node_ring p nodes) (length nodes)) nan

unfoldable pub within_or_not : Point → List Float → List ℕ → Bool
within_or_not q p nodes = cond (nodes_fit p nodes) (in_polygon q (node_ring p nodes)) false
