-- A side is as long from b to a as from a to b: a difference and its opposite have one square.
use mathlib.Core.Path.{◌≡◌, refl, sym, ap, ◌∙◌}
use mathlib.Core.Bool.{Bool, true, false, not, cond, ◌&&◌, beq}
use Prim.Native.Nat.{ℕ, zero, suc, ◌+◌, ◌-◌, ◌*◌, ◌^◌, ◌≤◌, ◌<◌}
use native.Mathlib.Omega.{arith}
use native.Mathlib.Nat.{mul_comm}
use lib.Dec.{ltb}
use lib.Ieee.{Float, nan, inf, fin, binary64, prec, emax, low, up, down, odd, units, round, sum, add, sub, neg, mul}
use lib.Ieee.Fits.{round_is}
use borrow.Author.Tests.{ltb-true, ltb-false}
use Rattle.geometry.specs.declared.Point.{Point}
use Rattle.geometry.specs.Measures.{side_length}

abbrev square : Float → Float
square x = mul binary64 x x

-- ---- a square has lost the sign
odd_sign : (d q k l : ℕ) → square (odd d true q k l) ≡ square (odd d false q k l)
unfolding odd mul
odd_sign d zero k l = refl
odd_sign d (suc q) k l = refl

infinite : square (inf true) ≡ square (inf false)
unfolding mul
infinite = refl

units_sign : (q k : ℕ) → square (units binary64 true q k) ≡ square (units binary64 false q k)
unfolding units
units_sign q k = go (ltb (q * 2 ^ k) (2 ^ (low binary64 + suc (emax binary64))))
  where
    go : (b : Bool) → square (cond b (odd (suc (prec binary64)) true q k (low binary64)) (inf true)) ≡ square (cond b (odd (suc (prec binary64)) false q k (low binary64)) (inf false))
    go true = odd_sign (suc (prec binary64)) q k (low binary64)
    go false = infinite

round_sign : (s : Bool) (n d : ℕ) → square (round binary64 s n d) ≡ square (round binary64 false n d)
round_sign false n d = refl
round_sign true n d = ap square (round_is binary64 true n d) ∙ units_sign _ _ ∙ sym (ap square (round_is binary64 false n d))

-- ---- the size of a sum of two numbers of like signs, and of unlike ones
abbrev size_of : Bool → ℕ → ℕ → ℕ
size_of true a b = a + b
size_of false a b = (a - b) + (b - a)

size_flip : (u : Bool) (a b : ℕ) → size_of u a b ≡ size_of u b a
size_flip true a b = omega arith
size_flip false a b = omega arith

sum-square : (s t : Bool) (a b c : ℕ) → square (sum binary64 s a t b c) ≡ square (round binary64 false (size_of (beq s t) a b) c)
unfolding sum
sum-square s t a b c = go (beq s t) (ltb a b) refl
  where
    up_to : a < b → b - a ≡ (a - b) + (b - a)
    up_to h = omega arith

    down_to : b ≤ a → a - b ≡ (a - b) + (b - a)
    down_to h = omega arith

    go : (u v : Bool) → ltb a b ≡ v → square (cond u (round binary64 s (a + b) c) (cond v (round binary64 t (b - a) c) (round binary64 (s && ltb b a) (a - b) c))) ≡ square (round binary64 false (size_of u a b) c)
    go true v e = round_sign s (a + b) c
    go false true e = round_sign t (b - a) c ∙ ap (λ (n : ℕ). square (round binary64 false n c)) (up_to (ltb-true a b e))
    go false false e = round_sign (s && ltb b a) (a - b) c ∙ ap (λ (n : ℕ). square (round binary64 false n c)) (down_to (ltb-false a b e))

unlike_flip : (s t : Bool) → beq s (not t) ≡ beq t (not s)
unlike_flip true true = refl
unlike_flip true false = refl
unlike_flip false true = refl
unlike_flip false false = refl

sum_flip : (s t : Bool) (a b c d : ℕ) → square (sum binary64 s a (not t) b (c * d)) ≡ square (sum binary64 t b (not s) a (d * c))
sum_flip s t a b c d =
    sum-square s (not t) a b (c * d)
    ∙ ap (λ (u : Bool). square (round binary64 false (size_of u a b) (c * d))) (unlike_flip s t)
    ∙ ap (λ (n : ℕ). square (round binary64 false n (c * d))) (size_flip (beq t (not s)) a b)
    ∙ ap (λ (n : ℕ). square (round binary64 false (size_of (beq t (not s)) b a) n)) (mul_comm c d)
    ∙ sym (sum-square t (not s) b a (d * c))

pub difference_flip : (x y : Float) → square (sub binary64 x y) ≡ square (sub binary64 y x)
unfolding sub add neg mul
difference_flip nan nan = refl
difference_flip nan (inf t) = refl
difference_flip nan (fin t n d) = refl
difference_flip (inf s) nan = refl
difference_flip (inf true) (inf true) = refl
difference_flip (inf true) (inf false) = refl
difference_flip (inf false) (inf true) = refl
difference_flip (inf false) (inf false) = refl
difference_flip (inf true) (fin t n d) = refl
difference_flip (inf false) (fin t n d) = refl
difference_flip (fin s m e) nan = refl
difference_flip (fin s m e) (inf true) = refl
difference_flip (fin s m e) (inf false) = refl
difference_flip (fin s m e) (fin t n d) = sum_flip s t (m * up e * down d) (n * up d * down e) (down e) (down d)

pub length_flip : (a b : Point) → side_length a b ≡ side_length b a
unfolding side_length
length_flip a b = rw (difference_flip b.x a.x, difference_flip b.y a.y)
