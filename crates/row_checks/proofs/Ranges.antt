-- A test of each number below n by `all` is the definition's.
use mathlib.Core.Path.{◌≡◌, refl, ◌∙◌, ap}
use mathlib.Core.Bool.{Bool, true, false, ◌&&◌, and_assoc}
use Prim.Native.Nat.{ℕ, zero, suc, ◌+◌}
use native.Mathlib.Nat.{add-zero, zero-add}
use native.Mathlib.Omega.{arith}
use Rattle.std.specs.List.{list_all, range_with_len}
use Rattle.rules.specs.Checks.{every}

and_yes : (b : Bool) → b ≡ (b && true)
and_yes true = refl
and_yes false = refl

every_first : (p : ℕ → Bool) (n : ℕ) → every p (suc n) ≡ (p 0 && every (λ k. p (suc k)) n)
unfolding every
every_first p zero = and_yes (p 0)
every_first p (suc n) = ap (λ b. b && p (suc n)) (every_first p n) ∙ and_assoc (p 0) (every (λ k. p (suc k)) n) (p (suc n))

all_from : (p q : ℕ → Bool) (a n : ℕ) → ((k : ℕ) → p (a + k) ≡ q k) → list_all p (range_with_len a n) ≡ every q n
unfolding every
all_from p q a zero h = refl
all_from p q a (suc n) h =
    rw (every_first q n, all_from p (λ k. q (suc k)) (a + 1) n (λ k. let e : a + 1 + k ≡ a + suc k = omega arith in ap p e ∙ h (suc k)), ← h 0, add-zero)

pub all_below : (p : ℕ → Bool) (n : ℕ) → list_all p (range_with_len 0 n) ≡ every p n
all_below p n = all_from p p 0 n (λ k. rw zero-add)
