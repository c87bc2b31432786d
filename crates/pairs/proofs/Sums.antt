-- Laws on finite sums of a function's values. Each is stated over any function.
use mathlib.Core.Path.{◌≡◌, refl, ap, ap₂}
use Prim.Native.Nat.{ℕ, zero, suc, ◌+◌, ◌*◌, ◌≤◌, ◌<◌}
use native.Mathlib.Omega.{arith}
use borrow.Author.Tests.{eq-eqb, ne_eqb}
use Rattle.geometry.specs.Rings.{next}
use Rattle.pairs.specs.Pairs.{sum}

pub sum_cong : (f g : ℕ → ℕ) (n : ℕ) → ((i : ℕ) → i < n → f i ≡ g i) → sum f n ≡ sum g n
unfolding sum
sum_cong f g zero h = refl
sum_cong f g (suc n) h = ap₂ ◌+◌ (sum_cong f g n (λ i l. h i (omega arith))) (h n (omega arith))

pub sum_add : (f g : ℕ → ℕ) (n : ℕ) → sum (λ i. f i + g i) n ≡ sum f n + sum g n
unfolding sum
sum_add f g zero = refl
sum_add f g (suc n) = let e = sum_add f g n in omega arith

pub sum_none : (f : ℕ → ℕ) (n : ℕ) → ((i : ℕ) → i < n → f i ≡ 0) → sum f n ≡ 0
unfolding sum
sum_none f zero h = refl
sum_none f (suc n) h = omega (arith, sum_none f n (λ i l. h i (omega arith)), h n (omega arith))

-- at most one value is 1 and the others are 0
pub sum_once : (f : ℕ → ℕ) (n : ℕ) → ((i : ℕ) → i < n → f i ≤ 1) → ((i k : ℕ) → i < n → k < n → 0 < f i → 0 < f k → i ≡ k) → sum f n ≤ 1
unfolding sum
sum_once f zero small one = omega arith
sum_once f (suc n) small one = go (f n) refl (sum_once f n (λ i l. small i (omega arith)) (λ i k l m p q. one i k (omega arith) (omega arith) p q))
  where
    go : (v : ℕ) → f n ≡ v → sum f n ≤ 1 → sum f n + f n ≤ 1
    go zero e ih = omega arith
    go (suc v) e ih =
        omega (arith, small n (omega arith), sum_none f n (λ i l. below i l (f i) refl))
      where
        below : (i : ℕ) → i < n → (w : ℕ) → f i ≡ w → f i ≡ 0
        below i l zero d = d
        below i l (suc w) d = let z : i ≡ n = one i n (omega arith) (omega arith) (omega arith) (omega arith) in absurd (omega arith)

-- the first value taken apart
pub sum_first : (f : ℕ → ℕ) (n : ℕ) → sum f (suc n) ≡ f 0 + sum (λ i. f (suc i)) n
unfolding sum
sum_first f zero = omega arith
sum_first f (suc n) = let e = sum_first f n in omega arith

-- the values in a ring, each taken at the next place
pub sum-next : (f : ℕ → ℕ) (n : ℕ) → sum (λ i. f (next n i)) n ≡ sum f n
unfolding sum
sum-next f zero = refl
sum-next f (suc n) =
    let last : f (next (suc n) n) ≡ f 0 = ap f (rw (eq-eqb (n + 1) (suc n) (omega arith))) in
    let others : sum (λ i. f (next (suc n) i)) n ≡ sum (λ i. f (suc i)) n = sum_cong _ _ n (λ i l. ap f (rw (ne_eqb (i + 1) (suc n) (λ e. omega arith)) (omega arith))) in
    omega (arith, sum_first f n)

-- the even and the odd places
pub sum_pairs : (f : ℕ → ℕ) (n : ℕ) → sum (λ k. f (2 * k) + f (2 * k + 1)) n ≡ sum f (2 * n)
unfolding sum
sum_pairs f zero = refl
sum_pairs f (suc n) =
    let e : 2 * suc n ≡ suc (suc (2 * n)) = omega arith in
    let o : 2 * n + 1 ≡ suc (2 * n) = omega arith in
    let ih = sum_pairs f n in
    rw (e, o) (omega arith)
