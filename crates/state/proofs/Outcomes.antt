-- Laws on outcomes and on the first of several tests.
use mathlib.Core.Path.{◌≡◌, refl, sym}
use mathlib.Core.Bool.{Bool, true, false, cond}
use mathlib.Core.List.{List, ◌∷◌}
use Prim.Native.Nat.{ℕ, suc}
use native.Mathlib.Omega.{arith}
use lib.Dec.{eqb}
use borrow.Author.Tests.{eqb-true, eqb-false}
use Rattle.state.specs.Outcome.{Outcome, refused, gives, Test, test, first_true}

pub gives_same : {A : Type 0} {x y : A} → ◌≡◌ {A = Outcome A} (gives x) (gives y) → x ≡ y
gives_same e = cc

pub refused_same : {A : Type 0} {m n : ℕ} → ◌≡◌ {A = Outcome A} (refused m) (refused n) → m ≡ n
refused_same e = cc

pub not_both : {A : Type 0} {n : ℕ} {x : A} → ◌≡◌ {A = Outcome A} (refused n) (gives x) → ⊥
not_both e = let z : ◌≡◌ {A = ℕ} 0 1 = cc in omega arith

-- no test holds when the first number is 0, and none of them is 0 itself
pub first_none : (n : ℕ) (b : Bool) (ts : List Test) → first_true (test (suc n) b ∷ ts) ≡ 0 → (b ≡ false) × (first_true ts ≡ 0)
unfolding first_true
first_none n true ts e = absurd (omega arith)
first_none n false ts e = (refl, e)

-- a step that is refused by a number other than 0, or gives a value
pub numbered_gives : {A : Type 0} (n : ℕ) (x y : A) → cond (eqb n 0) (gives x) (refused n) ≡ gives y → (n ≡ 0) × (x ≡ y)
numbered_gives n x y e = go (eqb n 0) refl
  where
    go : (t : Bool) → eqb n 0 ≡ t → (n ≡ 0) × (x ≡ y)
    go true d = (eqb-true n 0 d, gives_same (rw d at e))
    go false d = absurd (not_both (rw d at e))

pub numbered_refused : {A : Type 0} (n m : ℕ) (x : A) → cond (eqb n 0) (gives x) (refused n) ≡ refused m → (n ≡ m) × (n ≡ 0 → ⊥)
numbered_refused n m x e = go (eqb n 0) refl
  where
    go : (t : Bool) → eqb n 0 ≡ t → (n ≡ m) × (n ≡ 0 → ⊥)
    go true d = absurd (not_both (sym (rw d at e)))
    go false d = (refused_same (rw d at e), eqb-false n 0 d)
