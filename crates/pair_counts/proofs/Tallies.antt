-- How often a node stands in a list, and tests of each node of a list.
use mathlib.Core.Path.{◌≡◌, refl, ap, ap₂, sym, ◌∙◌}
use mathlib.Core.Bool.{Bool, true, ◌&&◌}
use mathlib.Core.List.{List, [], ◌∷◌}
use Prim.Native.Nat.{ℕ, zero, suc, ◌+◌, ◌≤◌, ◌<◌}
use native.Mathlib.Omega.{arith}
use native.Mathlib.Decide.{ℕ_discrete}
use borrow.Author.Tests.{eq-eqb, ne_eqb, eqb-true}
use lib.Dec.{eqb}
use lib.ListN.{length, get_or, set, replicate, length-replicate, get_or-replicate}
use lib.Seq.{ext_get_or, get_or-set_same, get_or-set_other}
use Rattle.std.specs.List.{list_all}
use Rattle.pair_counts.specs.Tally.{times, every_of, each_twice}
use Rattle.pair_counts.proofs.Every.{and_parts, and_both}

pub times_none : (v : ℕ) → times v [] ≡ 0
unfolding times
times_none v = refl

pub times_here : (v x : ℕ) (xs : List ℕ) → v ≡ x → times v (x ∷ xs) ≡ suc (times v xs)
unfolding times
times_here v x xs e = rw (eq-eqb v x e) (omega arith)

pub times_other : (v x : ℕ) (xs : List ℕ) → (v ≡ x → ⊥) → times v (x ∷ xs) ≡ times v xs
unfolding times
times_other v x xs e = rw (ne_eqb v x e) (omega arith)

more_times : (v x : ℕ) (xs : List ℕ) → times v xs ≤ times v (x ∷ xs)
more_times v x xs = go (ℕ_discrete v x)
  where
    go : Dec (v ≡ x) → times v xs ≤ times v (x ∷ xs)
    go (yes z) = omega (arith, times_here v x xs z)
    go (no z) = omega (arith, times_other v x xs z)

-- each node of a list stands there
pub times_at : (xs : List ℕ) (k d : ℕ) → k < length xs → 0 < times (get_or xs k d) xs
times_at [] k d l = absurd (omega arith)
times_at (x ∷ xs) zero d l = omega (arith, times_here x x xs refl)
times_at (x ∷ xs) (suc k) d l = omega (arith, times_at xs k d (omega arith), more_times (get_or xs k d) x xs)

-- ---- a test of each

module _ (p : ℕ → Bool) where
  -- it is the library's
  pub of_each : (xs : List ℕ) → list_all p xs ≡ every_of p xs
  unfolding every_of
  of_each [] = refl
  of_each (x ∷ xs) = ap (λ b. p x && b) (of_each xs)

  of_at : (xs : List ℕ) → every_of p xs ≡ true → (v : ℕ) → 0 < times v xs → p v ≡ true
  unfolding every_of
  of_at [] e v h = absurd (omega (arith, times_none v))
  of_at (x ∷ xs) e v h = go (ℕ_discrete v x) (λ l. of_at xs (and_parts (p x) (every_of p xs) e).1 v l)
    where
      go : Dec (v ≡ x) → (0 < times v xs → p v ≡ true) → p v ≡ true
      go (yes z) later = rw z (and_parts (p x) (every_of p xs) e).0
      go (no z) later = later (omega (arith, times_other v x xs z))

  of_all : (xs : List ℕ) → ((v : ℕ) → 0 < times v xs → p v ≡ true) → every_of p xs ≡ true
  unfolding every_of
  of_all [] h = refl
  of_all (x ∷ xs) h = and_both (p x) (every_of p xs) (h x (omega (arith, times_here x x xs refl))) (of_all xs (λ v l. h v (omega (arith, more_times v x xs))))

-- two tests that agree on the nodes of a list
of_same : (p q : ℕ → Bool) (xs : List ℕ) → ((v : ℕ) → 0 < times v xs → p v ≡ q v) → every_of p xs ≡ every_of q xs
unfolding every_of
of_same p q [] h = refl
of_same p q (x ∷ xs) h =
    ap₂ (λ a b. a && b) (h x (omega (arith, times_here x x xs refl))) (of_same p q xs (λ v l. h v (omega (arith, more_times v x xs))))

-- ---- each stands twice

pub each_two : (xs : List ℕ) → each_twice xs ≡ true → (v : ℕ) → 0 < times v xs → times v xs ≡ 2
unfolding each_twice
each_two xs e v h = eqb-true (times v xs) 2 (of_at (λ v. eqb (times v xs) 2) xs e v h)

pub two_each : (xs : List ℕ) → ((v : ℕ) → 0 < times v xs → times v xs ≡ 2) → each_twice xs ≡ true
unfolding each_twice
two_each xs h = of_all (λ v. eqb (times v xs) 2) xs (λ v l. eq-eqb (times v xs) 2 (h v l))

-- a tally of the nodes of a list gives the same test
pub tallied_two : (m : ℕ) (tally xs : List ℕ) → ((v : ℕ) → v < m → get_or tally v 0 ≡ times v xs) → ((v : ℕ) → 0 < times v xs → v < m)
    → every_of (λ v. eqb (get_or tally v 0) 2) xs ≡ each_twice xs
unfolding each_twice
tallied_two m tally xs counts small = of_same _ _ xs (λ v l. ap (λ k. eqb k 2) (counts v (small v l)))

-- ---- the tally of m nodes, one turn

module _ (m : ℕ) where
  -- all zeros
  pub zeros_at : (tally : List ℕ) → tally ≡ replicate m 0 → (v : ℕ) → v < m → get_or tally v 0 ≡ 0
  zeros_at tally e v l = rw e (get_or-replicate m v 0 0 l)

  pub zeros_are : (tally : List ℕ) → length tally ≡ m → ((v : ℕ) → v < m → get_or tally v 0 ≡ 0) → tally ≡ replicate m 0
  zeros_are tally e h = ext_get_or 0 tally (replicate m 0) (e ∙ sym (length-replicate m 0)) (λ i l. h i (omega arith) ∙ sym (get_or-replicate m i 0 0 (omega arith)))

  pub zeros_long : (tally : List ℕ) → tally ≡ replicate m 0 → length tally ≡ m
  zeros_long tally e = rw e (length-replicate m 0)

  module _ (tally : List ℕ) (long : length tally ≡ m) (x : ℕ) (small : x < m) (xs : List ℕ) where
    -- the tally and what is left give all
    pub count_step : (all : List ℕ) → ((v : ℕ) → v < m → get_or tally v 0 + times v (x ∷ xs) ≡ times v all)
        → (v : ℕ) → v < m → get_or (set tally x (get_or tally x 0 + 1)) v 0 + times v xs ≡ times v all
    count_step all inv v l = go (ℕ_discrete v x)
      where
        go : Dec (v ≡ x) → get_or (set tally x (get_or tally x 0 + 1)) v 0 + times v xs ≡ times v all
        go (yes z) =
            let s : get_or (set tally x (get_or tally x 0 + 1)) v 0 ≡ get_or tally x 0 + 1 = rw z (get_or-set_same tally x (get_or tally x 0 + 1) 0 (omega arith)) in
            let same : get_or tally v 0 ≡ get_or tally x 0 = rw z in
            omega (arith, inv v l, times_here v x xs z)
        go (no z) =
            let s = get_or-set_other tally x v (get_or tally x 0 + 1) 0 z in
            omega (arith, inv v l, times_other v x xs z)

    -- what is not left is cleared
    pub clear_step : ((v : ℕ) → v < m → times v (x ∷ xs) ≡ 0 → get_or tally v 0 ≡ 0)
        → (v : ℕ) → v < m → times v xs ≡ 0 → get_or (set tally x 0) v 0 ≡ 0
    clear_step inv v l e = go (ℕ_discrete v x)
      where
        go : Dec (v ≡ x) → get_or (set tally x 0) v 0 ≡ 0
        go (yes z) = rw z (get_or-set_same tally x 0 0 (omega arith))
        go (no z) = get_or-set_other tally x v 0 0 z ∙ inv v l (times_other v x xs z ∙ e)
