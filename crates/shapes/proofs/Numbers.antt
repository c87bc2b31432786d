-- Signs, fixed numbers and colour steps, by the code's tests.
use mathlib.Core.Path.{◌≡◌, refl}
use mathlib.Core.Bool.{Bool, true, false}
use mathlib.Core.List.{List, [], ◌∷◌}
use Prim.Native.Nat.{ℕ, ◌*◌, ◌≤◌, min}
use native.Mathlib.Omega.{arith}
use borrow.Author.Tests.{eq-eqb, ne_eqb, le-ltb}
use native.Mathlib.Nat.{zero-mul, add-zero}
use lib.Ieee.{Float, nan, inf, fin, up, lt, neg, round}
use Rattle.float.specs.Helpers.{decimal, absolute, round_away}
use Rattle.geometry.specs.F64.{◌⊖◌, ◌⊗◌, ◌⊘◌}
use Rattle.text.specs.Putting.{Put}
use Rattle.text.proofs.Midst.{begin, ended}
use Rattle.shapes.specs.Places.{sign_text, fixed_text, thousandths, across_text, up_text}
use Rattle.shapes.specs.Shapes.{step_of}

-- ---- signs

-- where there is nothing to put
pub nothing : (d : List ℕ) (a : ℕ) {t : List ℕ} → t ≡ [] → Put d a t d a
nothing d a e = rw e (ended (begin d a []))

module _ (minus : Bool) (n : ℕ) where
  pub sign_put : minus ≡ true → (n ≡ 0 → ⊥) → sign_text minus n ≡ 45 ∷ []
  unfolding sign_text
  sign_put e h = rw (e, ne_eqb n 0 h)

  pub sign_zero : n ≡ 0 → sign_text minus n ≡ []
  unfolding sign_text
  sign_zero h = rw (eq-eqb n 0 h) (go minus)
    where
      go : (b : Bool) → sign_text b 0 ≡ []
      go true = refl
      go false = refl

  pub sign_plus : minus ≡ false → sign_text minus n ≡ []
  unfolding sign_text
  sign_plus e = rw e

-- ---- fixed numbers

module _ (x zero : Float) (n : ℕ) (z : zero ≡ decimal 0 0) (e : n ≡ thousandths x) where
  pub across_is : fixed_text (lt x zero) n ≡ across_text x
  unfolding across_text
  across_is = rw (z, e)

  pub up_fixed : fixed_text (lt zero x) n ≡ up_text x
  unfolding up_text
  up_fixed = rw (z, e)

-- a number and its opposite
same_size : (y : Float) → absolute (neg y) ≡ absolute y
unfolding absolute neg
same_size nan = refl
same_size (inf s) = refl
same_size (fin s m e) = refl

turned : (y : Float) → lt (neg y) (decimal 0 0) ≡ lt (decimal 0 0) y
unfolding lt neg round
turned nan = refl
turned (inf true) = refl
turned (inf false) = refl
turned (fin true m e) = rw zero-mul (le-ltb (m * up e * 1) 0 (omega arith))
turned (fin false m e) = rw (zero-mul, add-zero)

pub up_is : (y : Float) → across_text (neg y) ≡ up_text y
unfolding across_text up_text thousandths
up_is y = rw (turned y, same_size y)

-- ---- colour steps

module _ (limit v one ten half : Float) (n : ℕ) (e : one ≡ decimal 1 0) (f : ten ≡ decimal 10 0) (g : half ≡ decimal 5 1) (h : n ≡ round_away ((v ⊖ limit) ⊘ (one ⊖ limit) ⊗ ten ⊖ half)) where
  pub step_is : step_of limit v ≡ min 9 n
  unfolding step_of
  step_is = rw (h, e, f, g)

pub step_small : (limit v : Float) → step_of limit v ≤ 9
unfolding step_of
step_small limit v = omega arith
