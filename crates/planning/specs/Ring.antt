-- A loop's ring (the first half of `sample_loop`): dropping, popping, turning, in the order of the Rust's operations. Definitions only.
use Rattle.std.specs.Prelude.{ℕ, zero, suc, ◌-◌, ◌/◌, Bool, cond, ◌&&◌, List, [], ◌∷◌, ◌++◌, length, ltb, Float}
use Rattle.std.specs.Bool.{beq}
use Rattle.std.specs.Float.Ieee.{lt}
use Rattle.float.specs.Helpers.{decimal, absolute}
use Rattle.geometry.specs.F64.{◌⊖◌, ◌⊗◌}
use Rattle.geometry.specs.declared.Point.{Point}
use Rattle.geometry.specs.Rings.{Ring, point_at, ring_of}
use Rattle.geometry.specs.Measures.{signed_area}

-- two points count as equal when both coordinate differences are below 0.001 × h
abbrev pub closeness : Float → Float
closeness h = decimal 1 3 ⊗ h

-- both coordinate differences are below the limit
unfoldable pub close : Float → Point → Point → Bool
close limit a b = lt (absolute (a.x ⊖ b.x)) limit && lt (absolute (a.y ⊖ b.y)) limit

-- the points kept of the first k: one is dropped when it is close to the last kept one
unfoldable pub kept : Float → Ring → ℕ → List Float
kept limit r zero = []
kept limit r (suc k) =
    let sofar = kept limit r k in
    let p = r.at k in
    cond (ltb 0 (length sofar) && close limit (point_at sofar (length sofar / 2 - 1)) p) sofar (sofar ++ (p.x ∷ p.y ∷ []))

-- how many of the first n points are left when last points close to the first are popped
unfoldable pub unclosed : Float → List Float → ℕ → ℕ
unclosed limit q zero = 0
unclosed limit q (suc zero) = 1
unclosed limit q (suc (suc n)) = let fewer = unclosed limit q (suc n) in cond (close limit (point_at q 0) (point_at q (suc n))) fewer (suc (suc n))

abbrev pub reversed : Ring → Ring
reversed r = record { size = r.size; at = λ i. r.at (r.size - 1 - i) }

-- the outer loop is turned when its area isn't positive, a hole when its area is positive
unfoldable pub turned : Bool → Ring → Ring
turned ccw r = cond (beq (lt (decimal 0 0) (signed_area r)) ccw) r (reversed r)

unfoldable pub loop_ring : Float → Bool → Ring → Ring
loop_ring h ccw r = let q = kept (closeness h) r r.size in turned ccw (ring_of q (unclosed (closeness h) q (length q / 2)))
