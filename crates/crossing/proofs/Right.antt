-- A side whose two ends are right of a line, or none of them, does not cross it.
use mathlib.Core.Path.{◌≡◌, refl, sym}
use mathlib.Core.Bool.{Bool, true, false, not, beq, true≢false}
use Prim.Native.Nat.{ℕ}
use lib.IntN.{ℤ}
use lib.Ieee.{Float, nan, inf, fin, lt, neg, round}
use Rattle.float.specs.Helpers.{decimal}
use Rattle.geometry.specs.declared.Point.{Point}
use Rattle.geometry.specs.Measures.{turn, apart, segments_cross}
use Rattle.state.proofs.Basics.{and_false}
use Rattle.crossing.specs.Right.{right_of}

-- what is below -z is not above z, for a z that is not negative
not_above : (m : ℕ) (e : ℤ) (x : Float) → lt x (neg (fin false m e)) ≡ true → lt (fin false m e) x ≡ false
unfolding lt neg
not_above m e nan h = refl
not_above m e (inf true) h = refl
not_above m e (inf false) h = absurd (true≢false (sym h))
not_above m e (fin true a b) h = refl
not_above m e (fin false a b) h = absurd (true≢false (sym h))

below_is_not_above : (x : Float) → lt x (neg (decimal 1 12)) ≡ true → lt (decimal 1 12) x ≡ false
unfolding round
below_is_not_above x h = not_above _ _ x h

not_apart : (x y : Float) (b : Bool) → lt x (neg (decimal 1 12)) ≡ b → lt y (neg (decimal 1 12)) ≡ b → apart x y ≡ false
unfolding apart
not_apart x y true hx hy = rw (hx, hy, below_is_not_above x hx, below_is_not_above y hy)
not_apart x y false hx hy = rw (hx, hy, and_false (lt (decimal 1 12) x))

pub not_crossing : (u v : Bool) (a b c d : Point) → (u ≡ right_of a b c) × (v ≡ right_of a b d) → not (beq u v) ≡ false → false ≡ segments_cross a b c d
unfolding segments_cross
not_crossing true true a b c d h e = rw (not_apart (turn a b c) (turn a b d) true (sym h.0) (sym h.1))
not_crossing false false a b c d h e = rw (not_apart (turn a b c) (turn a b d) false (sym h.0) (sym h.1))
not_crossing true false a b c d h e = absurd (true≢false e)
not_crossing false true a b c d h e = absurd (true≢false e)
