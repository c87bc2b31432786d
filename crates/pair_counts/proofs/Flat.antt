-- The test over the sides by their lower and higher nodes is the test over the rings.
use mathlib.Core.Path.{◌≡◌, refl, ap₂, sym, ◌∙◌}
use mathlib.Core.Bool.{Bool, true, false, cond}
use mathlib.Core.List.{List, [], ◌∷◌}
use mathlib.Core.Logic.{◌⊎◌, inl, inr}
use Prim.Native.Nat.{ℕ, zero, suc, ◌+◌, ◌≤◌, ◌<◌}
use native.Mathlib.Omega.{arith}
use native.Mathlib.Nat.{add-zero, add-suc}
use native.Mathlib.Decide.{dec_le}
use borrow.Author.Tests.{eqb-true, eqb-false}
use lib.Dec.{eqb}
use lib.ListN.{length, get_or}
use Rattle.geometry.specs.Rings.{next}
use Rattle.pairs.specs.Pairs.{is_pair, sum, sides, sides_of_all}
use Rattle.pairs.proofs.Sums.{sum_cong}
use Rattle.pairs.proofs.Sides.{pair_cases, pair_swap, sides_flip_all}
use Rattle.state.specs.Limits.{point_limit}
use Rattle.pair_counts.specs.Twice.{all_twice}
use Rattle.pair_counts.specs.Sides.{lower, higher, ends_of_all}
use Rattle.pair_counts.specs.Chains.{highs_at}
use Rattle.pair_counts.specs.Tally.{times, each_twice, sides_twice}
use Rattle.pair_counts.proofs.Every.{same_test, every_at, every_all}
use Rattle.pair_counts.proofs.Twice.{sum_found, pair_same, twice_counted, counted_twice}
use Rattle.pair_counts.proofs.Tallies.{times_none, times_here, times_other, each_two, two_each}
use Rattle.pair_counts.proofs.Linking.{highs_none, highs_here, highs_other}
use Rattle.pair_counts.proofs.Ends.{order_cases, all_first, all_later, all_long, Below, places}

-- ---- one side

-- 1 when l and h are a and b, otherwise 0
both : ℕ → ℕ → ℕ → ℕ → ℕ
both a b l h = cond (eqb l a) (cond (eqb b h) 1 0) 0

both_cases : (a b l h : ℕ) → ((l ≡ a) × (b ≡ h) × (both a b l h ≡ 1)) ⊎ (((l ≡ a) × (b ≡ h) → ⊥) × (both a b l h ≡ 0))
unfolding both
both_cases a b l h = go (eqb l a) refl (eqb b h) refl
  where
    go : (s : Bool) → eqb l a ≡ s → (t : Bool) → eqb b h ≡ t → ((l ≡ a) × (b ≡ h) × (both a b l h ≡ 1)) ⊎ (((l ≡ a) × (b ≡ h) → ⊥) × (both a b l h ≡ 0))
    go true e true f = inl (eqb-true l a e, eqb-true b h f, rw (e, f))
    go true e false f = inr ((λ z. eqb-false b h f z.1), rw (e, f))
    go false e t f = inr ((λ z. eqb-false l a e z.0), rw e)

both_ordered : (a b x y : ℕ) → a ≤ b → x ≤ y → both a b x y ≡ is_pair a b x y
both_ordered a b x y l m =
    elim (both_cases a b x y) [
      | inl e ↦ e.2 ∙ sym (rw (e.0, e.1) (pair_same a y))
      | inr e ↦
          elim (pair_cases a b x y) [
            | inl k ↦ absurd (e.0 (sym k.0, k.1))
            | inr (inl k) ↦ absurd (e.0 (omega (arith, k.0, k.1), omega (arith, k.0, k.1)))
            | inr (inr k) ↦ e.1 ∙ sym k
          ]
    ]

both_side : (a b x y : ℕ) → a ≤ b → both a b (lower x y) (higher x y) ≡ is_pair a b x y
both_side a b x y l =
    elim (order_cases x y) [
      | inl e ↦ rw (e.1, e.2) (both_ordered a b x y l e.0)
      | inr e ↦ rw (e.1, e.2) (both_ordered a b y x l e.0 ∙ pair_swap a b y x)
    ]

-- ---- the higher nodes at a lower one, counted

module _ (lows highs : List ℕ) where
  times-sum : (a b n : ℕ) → times b (highs_at lows highs a n) ≡ sum (λ i. both a b (get_or lows i 0) (get_or highs i 0)) n
  unfolding sum both
  times-sum a b zero = rw (highs_none lows highs a) (times_none b)
  times-sum a b (suc n) = go (eqb (get_or lows n 0) a) refl (eqb b (get_or highs n 0)) refl (times-sum a b n)
    where
      total : ℕ
      total = sum (λ i. both a b (get_or lows i 0) (get_or highs i 0)) n

      go : (s : Bool) → eqb (get_or lows n 0) a ≡ s → (t : Bool) → eqb b (get_or highs n 0) ≡ t → times b (highs_at lows highs a n) ≡ total
          → times b (highs_at lows highs a (suc n)) ≡ total + both a b (get_or lows n 0) (get_or highs n 0)
      go true e true f ih = rw (e, f, highs_here lows highs a n (eqb-true _ _ e)) (omega (arith, times_here b (get_or highs n 0) (highs_at lows highs a n) (eqb-true _ _ f)))
      go true e false f ih = rw (e, f, highs_here lows highs a n (eqb-true _ _ e)) (omega (arith, times_other b (get_or highs n 0) (highs_at lows highs a n) (eqb-false _ _ f)))
      go false e t f ih = rw (e, highs_other lows highs a n (eqb-false _ _ e)) (omega arith)

-- ---- the sides of all rings, counted

sum_split : (f : ℕ → ℕ) (m k : ℕ) → sum f (m + k) ≡ sum f m + sum (λ i. f (m + i)) k
unfolding sum
sum_split f m zero = rw (add-zero m) (omega arith)
sum_split f m (suc k) = let e = sum_split f m k in rw (add-suc m k) (omega arith)

-- a pair is counted over the sides as over the rings
count_all : (a b : ℕ) → a ≤ b → (rings : List (List ℕ))
    → sum (λ i. both a b (get_or (ends_of_all lower rings) i 0) (get_or (ends_of_all higher rings) i 0)) (length (ends_of_all lower rings)) ≡ sides_of_all a b rings
unfolding sides_of_all sides sum
count_all a b l [] = none
  where
    none : sum (λ i. both a b (get_or (ends_of_all lower []) i 0) (get_or (ends_of_all higher []) i 0)) (length (ends_of_all lower [])) ≡ 0
    none = rw empty
      where
        empty : length (ends_of_all lower []) ≡ 0
        empty = unfold ends_of_all in refl
count_all a b l (xs ∷ xss) =
    let f : ℕ → ℕ = λ i. both a b (get_or (ends_of_all lower (xs ∷ xss)) i 0) (get_or (ends_of_all higher (xs ∷ xss)) i 0) in
    let first = sum_cong f (λ i. is_pair a b (get_or xs i 0) (get_or xs (next (length xs) i) 0)) (length xs)
    (λ i m. ap₂ (both a b) (all_first lower xs xss i m) (all_first higher xs xss i m) ∙ both_side a b (get_or xs i 0) (get_or xs (next (length xs) i) 0) l) in
    let later = sum_cong (λ i. f (length xs + i)) (λ i. both a b (get_or (ends_of_all lower xss) i 0) (get_or (ends_of_all higher xss) i 0)) (length (ends_of_all lower xss))
    (λ i m. ap₂ (both a b) (all_later lower xs xss i) (all_later higher xs xss i)) in
    rw (all_long lower xs xss) (sum_split f (length xs) (length (ends_of_all lower xss)) ∙ ap₂ (λ x y. x + y) first (later ∙ count_all a b l xss))

-- ---- the two tests

module _ (rings : List (List ℕ)) (below : Below point_limit rings) where
  lows : List ℕ
  lows = ends_of_all lower rings

  highs : List ℕ
  highs = ends_of_all higher rings

  -- how often b stands at the lower node a
  counted : ℕ → ℕ → ℕ
  counted a b = times b (highs_at lows highs a (length lows))

  counted-sum : (a b : ℕ) → counted a b ≡ sum (λ i. both a b (get_or lows i 0) (get_or highs i 0)) (length lows)
  unfolding counted
  counted-sum a b = times-sum lows highs a b (length lows)

  counted_is : (a b : ℕ) → a ≤ b → counted a b ≡ sides_of_all a b rings
  unfolding lows highs
  counted_is a b l = counted-sum a b ∙ count_all a b l rings

  -- what is counted is a side
  counted_place : (a b : ℕ) → 0 < counted a b → (a ≤ b) × (b < point_limit)
  unfolding lows highs
  counted_place a b h =
      let s = counted-sum a b in
      let f = sum_found (λ i. both a b (get_or lows i 0) (get_or highs i 0)) (length lows) (omega arith) in
      let p = places point_limit rings below f.0 f.1 in
      elim (both_cases a b (get_or lows f.0 0) (get_or highs f.0 0)) [
        | inl e ↦ (omega (arith, p.order, e.0, e.1), omega (arith, p.small, e.1))
        | inr e ↦ absurd (omega (arith, f.2, e.1))
      ]

  rings_then : sides_twice lows highs ≡ true → all_twice rings ≡ true
  unfolding sides_twice counted
  rings_then e = counted_twice rings (λ a b h. go a b h (dec_le a b))
    where
      ordered : (a b : ℕ) → a ≤ b → 0 < sides_of_all a b rings → sides_of_all a b rings ≡ 2
      ordered a b l h =
          let c = counted_is a b l in
          let p = counted_place a b (omega arith) in
          let u = p.1 in
          let t : each_twice (highs_at lows highs a (length lows)) ≡ true = every_at (λ u. each_twice (highs_at lows highs u (length lows))) point_limit e a (omega arith) in
          sym c ∙ each_two (highs_at lows highs a (length lows)) t b (omega arith)

      go : (a b : ℕ) → 0 < sides_of_all a b rings → Dec (a ≤ b) → sides_of_all a b rings ≡ 2
      go a b h (yes l) = ordered a b l h
      go a b h (no l) = let f = sides_flip_all a b rings in f ∙ ordered b a (omega arith) (omega arith)

  then_rings : all_twice rings ≡ true → sides_twice lows highs ≡ true
  unfolding sides_twice counted
  then_rings e =
      every_all (λ u. each_twice (highs_at lows highs u (length lows))) point_limit
      (λ a m. two_each (highs_at lows highs a (length lows)) (λ b h. go a b h))
    where
      go : (a b : ℕ) → 0 < counted a b → counted a b ≡ 2
      go a b h =
          let p = counted_place a b h in
          let c = counted_is a b p.0 in
          c ∙ twice_counted rings e a b (omega arith)

  pub flat_twice : sides_twice (ends_of_all lower rings) (ends_of_all higher rings) ≡ all_twice rings
  unfolding lows highs
  flat_twice = same_test (sides_twice lows highs) (all_twice rings) rings_then then_rings
