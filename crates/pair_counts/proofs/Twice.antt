-- The test is true exactly when each pair of nodes is counted never or twice.
use mathlib.Core.Path.{◌≡◌, refl, ap, ◌∙◌}
use mathlib.Core.Bool.{Bool, true}
use mathlib.Core.List.{List, [], ◌∷◌}
use mathlib.Core.Logic.{◌⊎◌, inl, inr}
use Prim.Native.Nat.{ℕ, zero, suc, ◌+◌, ◌<◌}
use native.Mathlib.Omega.{arith}
use native.Mathlib.Decide.{ℕ_discrete}
use borrow.Author.Tests.{eq-eqb, eqb-true}
use lib.Dec.{eqb}
use lib.ListN.{length, get_or}
use Rattle.geometry.specs.Rings.{next}
use Rattle.pairs.specs.Pairs.{is_pair, sum, sides, sides_of_all}
use Rattle.pairs.proofs.Sides.{pair_cases, sides_flip_all}
use Rattle.pair_counts.specs.Twice.{every_side, every_side_of_all, all_twice, Twice}
use Rattle.pair_counts.proofs.Every.{and_parts, and_both, every_at, every_all}

-- ---- sums: a value that is not 0

pub sum_found : (f : ℕ → ℕ) (n : ℕ) → 0 < sum f n → (i : ℕ) × (i < n) × (0 < f i)
unfolding sum
sum_found f zero h = absurd (omega arith)
sum_found f (suc n) h = go (f n) refl (λ l. sum_found f n l)
  where
    go : (v : ℕ) → f n ≡ v → (0 < sum f n → (i : ℕ) × (i < n) × (0 < f i)) → (i : ℕ) × (i < suc n) × (0 < f i)
    go zero e rec = let r = rec (omega arith) in (r.0, omega (arith, r.1), r.2)
    go (suc v) e rec = (n, omega arith, omega arith)

sum_has : (f : ℕ → ℕ) (n i : ℕ) → i < n → 0 < f i → 0 < sum f n
unfolding sum
sum_has f zero i l h = absurd (omega arith)
sum_has f (suc n) i l h = go (ℕ_discrete i n) (λ m. sum_has f n i m h)
  where
    go : Dec (i ≡ n) → (i < n → 0 < sum f n) → 0 < sum f n + f n
    go (yes e) rec = let g : 0 < f n = rw e at h in omega arith
    go (no e) rec = let g = rec (omega arith) in omega arith

pub pair_same : (a b : ℕ) → is_pair a b a b ≡ 1
unfolding is_pair
pair_same a b = rw (eq-eqb a a refl, eq-eqb b b refl)

-- ---- a test of each side, and of each pair that is a side

module _ (p : ℕ → ℕ → Bool) where
  -- of a pair that is a side, if the test does not turn on the order
  pair_holds : ((a b : ℕ) → p a b ≡ p b a) → (a b u v : ℕ) → p u v ≡ true → 0 < is_pair a b u v → p a b ≡ true
  pair_holds flip a b u v e h =
      elim (pair_cases a b u v) [
        | inl g ↦ rw (g.0, g.1) e
        | inr (inl g) ↦ flip a b ∙ rw (g.0, g.1) e
        | inr (inr g) ↦ absurd (omega (arith, g))
      ]

  side_holds : ((a b : ℕ) → p a b ≡ p b a) → (xs : List ℕ) → every_side p xs ≡ true → (a b : ℕ) → 0 < sides a b xs → p a b ≡ true
  unfolding sides every_side
  side_holds flip xs e a b h =
      let n = length xs in
      let f = sum_found (λ i. is_pair a b (get_or xs i 0) (get_or xs (next n i) 0)) n h in
      pair_holds flip a b _ _ (every_at (λ i. p (get_or xs i 0) (get_or xs (next n i) 0)) n e f.0 f.1) f.2

  side_holds_all : ((a b : ℕ) → p a b ≡ p b a) → (xss : List (List ℕ)) → every_side_of_all p xss ≡ true → (a b : ℕ) → 0 < sides_of_all a b xss → p a b ≡ true
  unfolding sides_of_all every_side_of_all
  side_holds_all flip [] e a b h = absurd (omega arith)
  side_holds_all flip (xs ∷ xss) e a b h =
      let parts = and_parts (every_side p xs) (every_side_of_all p xss) e in
      go (sides a b xs) refl (λ l. side_holds flip xs parts.0 a b l) (λ l. side_holds_all flip xss parts.1 a b l)
    where
      go : (n : ℕ) → sides a b xs ≡ n → (0 < sides a b xs → p a b ≡ true) → (0 < sides_of_all a b xss → p a b ≡ true) → p a b ≡ true
      go zero z here later = later (omega arith)
      go (suc n) z here later = here (omega arith)

  -- and the other way
  holds_side : (xs : List ℕ) → ((a b : ℕ) → 0 < sides a b xs → p a b ≡ true) → every_side p xs ≡ true
  unfolding sides every_side
  holds_side xs h =
      let n = length xs in
      every_all (λ i. p (get_or xs i 0) (get_or xs (next n i) 0)) n
      (λ i l. h (get_or xs i 0) (get_or xs (next n i) 0) (sum_has _ n i l (omega (arith, pair_same (get_or xs i 0) (get_or xs (next n i) 0)))))

  holds_side_all : (xss : List (List ℕ)) → ((a b : ℕ) → 0 < sides_of_all a b xss → p a b ≡ true) → every_side_of_all p xss ≡ true
  unfolding sides_of_all every_side_of_all
  holds_side_all [] h = refl
  holds_side_all (xs ∷ xss) h =
      and_both (every_side p xs) (every_side_of_all p xss) (holds_side xs (λ a b l. h a b (omega arith))) (holds_side_all xss (λ a b l. h a b (omega arith)))

-- ---- each pair that is a side is counted twice

module _ (rings : List (List ℕ)) where
  pub twice_counted : all_twice rings ≡ true → (a b : ℕ) → 0 < sides_of_all a b rings → sides_of_all a b rings ≡ 2
  unfolding all_twice
  twice_counted e a b h =
      eqb-true (sides_of_all a b rings) 2 (side_holds_all (λ a b. eqb (sides_of_all a b rings) 2) (λ a b. ap (λ k. eqb k 2) (sides_flip_all a b rings)) rings e a b h)

  pub counted_twice : ((a b : ℕ) → 0 < sides_of_all a b rings → sides_of_all a b rings ≡ 2) → all_twice rings ≡ true
  unfolding all_twice
  counted_twice h = holds_side_all (λ a b. eqb (sides_of_all a b rings) 2) rings (λ a b l. eq-eqb (sides_of_all a b rings) 2 (h a b l))

  never_or_twice : all_twice rings ≡ true → (a b : ℕ) → (sides_of_all a b rings ≡ 0) ⊎ (sides_of_all a b rings ≡ 2)
  never_or_twice e a b = go (sides_of_all a b rings) refl
    where
      go : (n : ℕ) → sides_of_all a b rings ≡ n → (sides_of_all a b rings ≡ 0) ⊎ (sides_of_all a b rings ≡ 2)
      go zero z = inl z
      go (suc n) z = inr (twice_counted e a b (omega arith))

  all_found : ((a b : ℕ) → (sides_of_all a b rings ≡ 0) ⊎ (sides_of_all a b rings ≡ 2)) → all_twice rings ≡ true
  all_found h = counted_twice (λ a b l. go a b l (h a b))
    where
      go : (a b : ℕ) → 0 < sides_of_all a b rings → (sides_of_all a b rings ≡ 0) ⊎ (sides_of_all a b rings ≡ 2) → sides_of_all a b rings ≡ 2
      go a b l (inl z) = absurd (omega arith)
      go a b l (inr z) = z

pub twice : Twice
twice = record { pairs = never_or_twice; found = all_found }
