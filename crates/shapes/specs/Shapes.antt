-- What is drawn of a plate: its outline, tiles, fronts and nodes. Definitions only.
use Rattle.std.specs.Prelude.{ℕ, ◌+◌, min, List, [], ◌∷◌, ◌++◌, Float, get_or}
use Rattle.float.specs.Helpers.{decimal, lesser, round_away}
use Rattle.geometry.specs.declared.Point.{Point}
use Rattle.geometry.specs.F64.{◌⊖◌, ◌⊗◌, ◌⊘◌}
use Rattle.geometry.specs.Rings.{point_at}
use Rattle.geometry.specs.Measures.{least_corner}
use Rattle.state.specs.State.{Quad, quad, quad_nodes, numbered, joined}
use Rattle.text.specs.Words.{ascii}
use Rattle.shapes.specs.Places.{place_text}

-- ---- closed lines

-- the places of the points with these numbers
unfoldable pub places_text : List Float → List ℕ → List ℕ
places_text points [] = []
places_text points (n ∷ ns) = place_text (point_at points n) ++ places_text points ns

-- a closed line through them: SVG goes on from place to place behind M, and Z closes
unfoldable pub ring_text : List Float → List ℕ → List ℕ
ring_text points ns = joined (ascii "M" ∷ places_text points ns ∷ ascii "Z" ∷ [])

-- the same of points
unfoldable pub rest_text : List Point → List ℕ
rest_text [] = ascii "Z"
rest_text (p ∷ ps) = place_text p ++ rest_text ps

unfoldable pub line_text : List Point → List ℕ
line_text ps = ascii "M" ++ rest_text ps

-- a shape of a class, which is a letter
unfoldable pub open_text : ℕ → List ℕ
open_text class = joined (ascii "<path class=\"" ∷ (class ∷ []) ∷ ascii "\" d=\"" ∷ [])

unfoldable pub path_text : ℕ → List ℕ → List ℕ
path_text class line = joined (open_text class ∷ line ∷ ascii "\"/>\n" ∷ [])

-- loops of these lengths, one after the other, from point `first` on
unfoldable pub loops_text : List Float → ℕ → List ℕ → List ℕ
loops_text coords first [] = []
loops_text coords first (n ∷ ns) = ring_text coords (numbered first n) ++ loops_text coords (first + n) ns

-- o, for outline
abbrev pub outline_text : List Float → List ℕ → List ℕ
outline_text coords loops = path_text 111 (loops_text coords 0 loops)

-- ---- tiles

abbrev pub worst_of : List Float → Quad → Float
worst_of points q = least_corner (point_at points q.a) (point_at points q.b) (point_at points q.c) (point_at points q.d)

-- which of ten even steps from the corner limit to 1 a corner value is in, 0 to 9: rounding t - 1/2 cuts t to a whole number
unfoldable pub step_of : Float → Float → ℕ
step_of limit v = min 9 (round_away ((v ⊖ limit) ⊘ (decimal 1 0 ⊖ limit) ⊗ decimal 10 0 ⊖ decimal 5 1))

-- A to J, by the least corner value
unfoldable pub tile_text : Float → List Float → Quad → List ℕ
tile_text limit points q = path_text (65 + step_of limit (worst_of points q)) (ring_text points (quad_nodes q))

unfoldable pub tiles_text : Float → List Float → List Quad → List ℕ
tiles_text limit points [] = []
tiles_text limit points (q ∷ qs) = tile_text limit points q ++ tiles_text limit points qs

-- the least corner value of all tiles, as a fold of `f64::min`
unfoldable pub worst : Float → List Float → List Quad → Float
worst least points [] = least
worst least points (q ∷ qs) = worst (lesser least (worst_of points q)) points qs

-- the quad of four numbers
abbrev pub quad_at : List ℕ → Quad
quad_at xs = quad (get_or xs 0 0) (get_or xs 1 0) (get_or xs 2 0) (get_or xs 3 0)

-- ---- fronts and nodes

-- f, for front
unfoldable pub fronts_text : List Float → List (List ℕ) → List ℕ
fronts_text points [] = []
fronts_text points (f ∷ fs) = path_text 102 (ring_text points f) ++ fronts_text points fs

-- a node is a line of no length, which round ends make a dot
unfoldable pub dot_text : Point → List ℕ
dot_text p = joined (ascii "M" ∷ place_text p ∷ ascii "h0" ∷ [])

unfoldable pub dots_text : List Float → List ℕ → List ℕ
dots_text points [] = []
dots_text points (n ∷ ns) = dot_text (point_at points n) ++ dots_text points ns

-- the first n nodes
abbrev pub nodes_text : ℕ → List Float → ℕ → List ℕ
nodes_text class points n = path_text class (dots_text points (numbered 0 n))
