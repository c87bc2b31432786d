-- Laws on lists and tests that several proofs here use.
use mathlib.Core.Path.{◌≡◌, refl}
use mathlib.Core.Bool.{Bool, true, false, ◌&&◌, ◌||◌}
use mathlib.Core.List.{List, [], ◌∷◌, ◌++◌}
use Prim.Native.Nat.{ℕ, zero, suc, ◌+◌, ◌*◌, ◌/◌, ◌≤◌, ◌<◌}
use native.Mathlib.Omega.{arith}
use mathlib.Core.Logic.{◌⊎◌, inl, inr}
use lib.Dec.{ltb}
use borrow.Author.Tests.{ltb-true, ltb-false}
use lib.ListN.{length, get_or, get_or-append}
use lib.Ieee.{Float, nan}
use Rattle.geometry.specs.Rings.{point_at}

-- what holds at each place of two lists holds at each place of both together
pub all_append : {A : Type 0} (P : A → Type 0) (d : A) (xs ys : List A) → ((i : ℕ) → i < length xs → P (get_or xs i d)) → ((i : ℕ) → i < length ys → P (get_or ys i d))
    → (i : ℕ) → i < length (xs ++ ys) → P (get_or (xs ++ ys) i d)
all_append P d [] ys h k i l = k i l
all_append P d (x ∷ xs) ys h k zero l = h 0 (omega arith)
all_append P d (x ∷ xs) ys h k (suc i) l = all_append P d xs ys (λ m g. h (suc m) (omega arith)) k i (omega arith)

pub below_or_from : (a n : ℕ) → (a < n) ⊎ (n ≤ a)
below_or_from a n = go (ltb a n) refl
  where
    go : (t : Bool) → ltb a n ≡ t → (a < n) ⊎ (n ≤ a)
    go true e = inl (ltb-true a n e)
    go false e = inr (ltb-false a n e)

-- twice a number that is at most 1
pub twice : (k r : ℕ) → r ≤ 1 → k ≡ 2 * r → (k ≡ 0) ⊎ (k ≡ 2)
twice k zero l e = inl (omega arith)
twice k (suc r) l e = inr (omega arith)

pub and_left : (a b : Bool) → (a && b) ≡ true → a ≡ true
and_left true b e = refl
and_left false b e = e

pub and_right : (a b : Bool) → (a && b) ≡ true → b ≡ true
and_right true true e = refl
and_right true false e = e
and_right false true e = refl
and_right false false e = e

pub or_true_right : (a b : Bool) → b ≡ true → (a || b) ≡ true
or_true_right true b e = refl
or_true_right false b e = e

-- a node's point stays where points are only added
pub point-append : (p more : List Float) (i : ℕ) → i < length p / 2 → point_at (p ++ more) i ≡ point_at p i
point-append p more i l = rw (get_or-append p more nan (i * 2) (omega arith), get_or-append p more nan (i * 2 + 1) (omega arith))
