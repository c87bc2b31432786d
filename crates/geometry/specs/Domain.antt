-- The plate's outline as the job has it: its rings, the outer one first, then the holes. Definitions only.
use Rattle.std.specs.Prelude.{ℕ, zero, suc, ◌+◌, ◌*◌, Bool, false, not, cond, ◌&&◌, ◌||◌, List, [], ◌∷◌, drop, Float}
use Rattle.std.specs.Float.{inf}
use Rattle.std.specs.Float.Ieee.{neg, lt}
use Rattle.float.specs.Helpers.{decimal, absolute}
use Rattle.geometry.specs.F64.{◌⊕◌, ◌⊖◌}
use Rattle.geometry.specs.declared.Point.{Point}
use Rattle.geometry.specs.Rings.{Ring, ring_of, next}
use Rattle.geometry.specs.Measures.{signed_area, in_polygon, segment_distance, short_in_domain}

-- the rings that the loop lengths cut out of the coordinates, one after the other
unfoldable pub rings : List Float → List ℕ → List Ring
rings coords [] = []
rings coords (n ∷ ns) = ring_of coords n ∷ rings (drop (n * 2) coords) ns

-- how many points loops of these lengths have
unfoldable pub sum_of : List ℕ → ℕ
sum_of [] = 0
sum_of (n ∷ ns) = n + sum_of ns

-- the holes' areas by their absolute values, added up in order; Rust's sum of f64 starts from -0
unfoldable pub holes_area : Float → List Ring → Float
holes_area sum [] = sum
holes_area sum (r ∷ rs) = holes_area (sum ⊕ absolute (signed_area r)) rs

-- `Domain::area`
unfoldable pub domain_area : List Ring → Float
domain_area [] = decimal 0 0
domain_area (outer ∷ holes) = signed_area outer ⊖ holes_area (neg (decimal 0 0)) holes

unfoldable pub in_some : Point → List Ring → Bool
in_some p [] = false
in_some p (r ∷ rs) = in_polygon p r || in_some p rs

-- `Domain::contains`
unfoldable pub contains : List Ring → Point → Bool
contains [] p = false
contains (outer ∷ holes) p = in_polygon p outer && not (in_some p holes)

-- `nearest_segment`: the least distance to the first k sides of a ring, from `best`; a distance that is not less changes nothing
unfoldable pub nearest_in_ring : Point → Float → Ring → ℕ → Float
nearest_in_ring p best r zero = best
nearest_in_ring p best r (suc k) =
    let sofar = nearest_in_ring p best r k in
    let d = segment_distance short_in_domain p (r.at k) (r.at (next r.size k)) in
    cond (lt d sofar) d sofar

unfoldable pub nearest_from : Point → Float → List Ring → Float
nearest_from p best [] = best
nearest_from p best (r ∷ rs) = nearest_from p (nearest_in_ring p best r r.size) rs

-- `Domain::distance_to_boundary`
unfoldable pub distance_to_boundary : List Ring → Point → Float
distance_to_boundary rs p = nearest_from p (inf false) rs
