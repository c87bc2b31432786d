-- What a definition's tests give where the code has made them.
use mathlib.Core.Path.{◌≡◌, refl, sym}
use mathlib.Core.Bool.{Bool, true, false, not, cond, ◌&&◌, beq, true≢false}
use lib.Ieee.{Float, lt, le}
use Rattle.float.specs.Helpers.{clamp_unit}
use Rattle.geometry.specs.F64.{◌⊕◌, ◌⊖◌, ◌⊗◌, ◌⊘◌}
use Rattle.geometry.specs.declared.Point.{Point}
use Rattle.geometry.specs.Measures.{toward, dot, ray_crosses, turn, apart, segments_cross}
use Rattle.geometry.specs.Squares.{square_to, segment_square}

-- ---- the ray: two tests that agree, and two that differ
agree : (u v w : Bool) → beq u v ≡ true → false ≡ (cond u (not v) v && w)
agree true true w h = refl
agree false false w h = refl
agree true false w h = absurd (true≢false (sym h))
agree false true w h = absurd (true≢false (sym h))

differ : (u v w : Bool) → beq u v ≡ false → w ≡ (cond u (not v) v && w)
differ true false w h = refl
differ false true w h = refl
differ true true w h = absurd (true≢false h)
differ false false w h = absurd (true≢false h)

module _ (p a b : Point) (u v : Bool) (below : (u ≡ lt p.y a.y) × (v ≡ lt p.y b.y)) where
  abbrev across : Bool
  across = lt p.x (a.x ⊕ (p.y ⊖ a.y) ⊘ (b.y ⊖ a.y) ⊗ (b.x ⊖ a.x))

  pub ray_beside : beq u v ≡ true → false ≡ ray_crosses p a b
  unfolding ray_crosses
  ray_beside h = rw (← below.0, ← below.1) (agree u v across h)

  pub ray_between : beq u v ≡ false → across ≡ ray_crosses p a b
  unfolding ray_crosses
  ray_between h = rw (← below.0, ← below.1) (differ u v across h)

-- ---- the square of the distance to a segment: to its first end, and to the foot
module _ (short : Float) (p a b : Point) where
  pub to_end : le (square_to a b) short ≡ true → square_to a p ≡ segment_square short p a b
  unfolding segment_square
  to_end h = rw h

  pub to_foot : (t : Float) → le (square_to a b) short ≡ false → t ≡ clamp_unit (dot (toward a p) (toward a b) ⊘ square_to a b)
      → square_to (record { x = a.x ⊕ t ⊗ (toward a b).x; y = a.y ⊕ t ⊗ (toward a b).y }) p ≡ segment_square short p a b
  unfolding segment_square
  to_foot t h e = rw (h, e)

-- ---- crossing
module _ (a b c d : Point) (d1 d2 : Float) (f : Bool) (h1 : d1 ≡ turn a b c) (h2 : d2 ≡ turn a b d) (hf : f ≡ apart d1 d2) where
  pub one_side : f ≡ false → false ≡ segments_cross a b c d
  unfolding segments_cross
  one_side h = rw (← h1, ← h2, ← hf, h)

  pub both_sides : (d3 d4 : Float) (g : Bool) → f ≡ true → d3 ≡ turn c d a → d4 ≡ turn c d b → g ≡ apart d3 d4 → g ≡ segments_cross a b c d
  unfolding segments_cross
  both_sides d3 d4 g h h3 h4 hg = rw (← h1, ← h2, ← hf, h, hg, h3, h4)
