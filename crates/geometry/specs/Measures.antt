-- The measures on points, sides, rings and quads, each in the order of the Rust's operations. Definitions only.
use Rattle.std.specs.Prelude.{ℕ, zero, suc, Bool, false, not, cond, ◌&&◌, ◌||◌, Float}
use Rattle.std.specs.Float.{inf}
use Rattle.std.specs.Float.Ieee.{neg, lt, le}
use Rattle.float.specs.Helpers.{decimal, lesser, clamp_unit, is_finite}
use Rattle.float.specs.Root.{root}
use Rattle.geometry.specs.F64.{◌⊕◌, ◌⊖◌, ◌⊗◌, ◌⊘◌}
use Rattle.geometry.specs.declared.Point.{Point}
use Rattle.geometry.specs.Rings.{Ring, next, prev}

-- the vector from a to b
abbrev pub toward : Point → Point → Point
toward a b = record { x = b.x ⊖ a.x; y = b.y ⊖ a.y }

abbrev pub cross : Point → Point → Float
cross u v = u.x ⊗ v.y ⊖ u.y ⊗ v.x

abbrev pub dot : Point → Point → Float
dot u v = u.x ⊗ v.x ⊕ u.y ⊗ v.y

-- the length of the side from a to b; `powi(2)` is one multiplication
unfoldable pub side_length : Point → Point → Float
side_length a b = let u = toward a b in root (u.x ⊗ u.x ⊕ u.y ⊗ u.y)

-- ---- rings: what the first k sides give

-- one side's part in twice the area
abbrev pub area_term : Point → Point → Float
area_term a b = a.x ⊗ b.y ⊖ b.x ⊗ a.y

-- `signed_area`: the sides' parts, added up from 0 in order
unfoldable pub area_sum : Ring → ℕ → Float
area_sum r zero = decimal 0 0
area_sum r (suc k) = area_sum r k ⊕ area_term (r.at k) (r.at (next r.size k))

unfoldable pub signed_area : Ring → Float
signed_area r = area_sum r r.size ⊘ decimal 2 0

-- `front_length`
unfoldable pub length_sum : Ring → ℕ → Float
length_sum r zero = decimal 0 0
length_sum r (suc k) = length_sum r k ⊕ side_length (r.at k) (r.at (next r.size k))

unfoldable pub front_length : Ring → Float
front_length r = length_sum r r.size

-- whether the ray from p to the right crosses the side from a to b (`point_in_polygon`)
unfoldable pub ray_crosses : Point → Point → Point → Bool
ray_crosses p a b =
    let t = (p.y ⊖ a.y) ⊘ (b.y ⊖ a.y) in
    cond (lt p.y a.y) (not (lt p.y b.y)) (lt p.y b.y) && lt p.x (a.x ⊕ t ⊗ (b.x ⊖ a.x))

unfoldable pub inside_so_far : Point → Ring → ℕ → Bool
inside_so_far p r zero = false
inside_so_far p r (suc k) = let sofar = inside_so_far p r k in cond (ray_crosses p (r.at k) (r.at (next r.size k))) (not sofar) sofar

-- `point_in_polygon`
unfoldable pub in_polygon : Point → Ring → Bool
in_polygon p r = inside_so_far p r r.size

-- ---- distance to a segment

-- The Rust has two functions of the name `point_segment_distance`, which differ in how short a segment counts as a point:
-- a squared length of at most `short` does.
unfoldable pub segment_distance : Float → Point → Point → Point → Float
segment_distance short p a b =
    let ab = toward a b in
    let ap = toward a p in
    let length2 = ab.x ⊗ ab.x ⊕ ab.y ⊗ ab.y in
    let t = clamp_unit ((ap.x ⊗ ab.x ⊕ ap.y ⊗ ab.y) ⊘ length2) in
    let q : Point = record { x = a.x ⊕ t ⊗ ab.x; y = a.y ⊕ t ⊗ ab.y } in
    cond (le length2 short) (side_length a p) (side_length q p)

-- in paving 1e-18, in the domain 0
abbrev pub short_in_paving : Float
short_in_paving = decimal 1 18

abbrev pub short_in_domain : Float
short_in_domain = decimal 0 0

-- `loop_distance`, `distance_to_fronts`: the least distance to the first k sides, from `best`
unfoldable pub ring_distance : Float → Point → Ring → ℕ → Float
ring_distance best p r zero = best
ring_distance best p r (suc k) = lesser (ring_distance best p r k) (segment_distance short_in_paving p (r.at k) (r.at (next r.size k)))

-- ---- crossing

-- twice the area of the triangle a b c
abbrev pub turn : Point → Point → Point → Float
turn a b c = cross (toward a b) (toward a c)

-- one of the two is above 1e-12 and the other below -1e-12
unfoldable pub apart : Float → Float → Bool
apart d e =
    let tiny = decimal 1 12 in
    (lt tiny d && lt e (neg tiny)) || (lt d (neg tiny) && lt tiny e)

-- `segments_cross`
unfoldable pub segments_cross : Point → Point → Point → Point → Bool
segments_cross a b c d = apart (turn a b c) (turn a b d) && apart (turn c d a) (turn c d b)

-- ---- corners

-- document 01: sharp means dot < 0 or (3 × cross) × cross > dot × dot
abbrev pub sharp_turn : Float → Float → Bool
sharp_turn c d = lt d (decimal 0 0) || lt (d ⊗ d) (decimal 3 0 ⊗ c ⊗ c)

-- `turn_at`: the corner at place i of a ring
unfoldable pub sharp_at : Ring → ℕ → Bool
sharp_at r i =
    let e1 = toward (r.at (prev r.size i)) (r.at i) in
    let e2 = toward (r.at i) (r.at (next r.size i)) in
    sharp_turn (cross e1 e2) (dot e1 e2)

-- document 01: the cross product of the side to the next node and the side to the previous one, divided by the product of their lengths
unfoldable pub corner_value : Point → Point → Point → Float
corner_value before here after = cross (toward here after) (toward here before) ⊘ (side_length here after ⊗ side_length here before)

-- document 01: finite and above the limit
unfoldable pub corner_passes : Float → Float → Bool
corner_passes limit v = is_finite v && lt limit v

-- ---- a quad, by its four points in order

-- `signed_quad_area`
unfoldable pub quad_area : Point → Point → Point → Point → Float
quad_area a b c d = (decimal 0 0 ⊕ area_term a b ⊕ area_term b c ⊕ area_term c d ⊕ area_term d a) ⊘ decimal 2 0

-- the corner test: every corner value is finite and above the limit
unfoldable pub corners_pass : Float → Point → Point → Point → Point → Bool
corners_pass limit a b c d =
    corner_passes limit (corner_value d a b) && corner_passes limit (corner_value a b c) && corner_passes limit (corner_value b c d)
    && corner_passes limit (corner_value c d a)

-- the least corner value, as a fold of `f64::min` from infinity
unfoldable pub least_corner : Point → Point → Point → Point → Float
least_corner a b c d = lesser (lesser (lesser (lesser (inf false) (corner_value d a b)) (corner_value a b c)) (corner_value b c d)) (corner_value c d a)
