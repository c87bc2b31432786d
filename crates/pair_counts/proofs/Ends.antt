-- The lower and higher nodes of the sides of rings, place by place.
use mathlib.Core.Path.{◌≡◌, refl, ◌∙◌}
use mathlib.Core.Bool.{Bool, true, false}
use mathlib.Core.List.{List, [], ◌∷◌, ◌++◌}
use mathlib.Core.Logic.{◌⊎◌, inl, inr}
use Prim.Native.Nat.{ℕ, zero, suc, ◌+◌, ◌-◌, ◌≤◌, ◌<◌}
use native.Mathlib.Omega.{arith}
use native.Mathlib.Decide.{ℕ_discrete, dec_lt}
use borrow.Author.Tests.{ltb-true, ltb-false}
use lib.Dec.{ltb}
use lib.ListN.{length, get_or, take, drop, length-append, length-drop, get_or-append}
use lib.Seq.{get_or-append-add, get_or-append_seam, get_or-take, get_or-drop, length-take-le}
use Rattle.geometry.specs.Domain.{sum_of}
use Rattle.geometry.specs.Rings.{next}
use Rattle.state.specs.State.{cut}
use Rattle.pairs.proofs.Sides.{next_below}
use Rattle.pair_counts.specs.Sides.{lower, higher, listed, ends, ends_of_all}
use Rattle.pair_counts.proofs.Filling.{side, length-listed}

-- which node is the lower one
pub order_cases : (x y : ℕ) → ((x ≤ y) × (lower x y ≡ x) × (higher x y ≡ y)) ⊎ ((y ≤ x) × (lower x y ≡ y) × (higher x y ≡ x))
unfolding lower higher
order_cases x y = go (ltb y x) refl
  where
    go : (t : Bool) → ltb y x ≡ t → ((x ≤ y) × (lower x y ≡ x) × (higher x y ≡ y)) ⊎ ((y ≤ x) × (lower x y ≡ y) × (higher x y ≡ x))
    go true e = inr (omega (arith, ltb-true y x e), rw e, rw e)
    go false e = inl (ltb-false y x e, rw e, rw e)

-- ---- the places

listed_at : (g : ℕ → ℕ) (k i : ℕ) → i < k → get_or (listed g k) i 0 ≡ g i
unfolding listed
listed_at g zero i l = absurd (omega arith)
listed_at g (suc k) i l = go (ℕ_discrete i k) (λ m. listed_at g k i m)
  where
    long : length (listed g k) ≡ k
    long = length-listed g k

    go : Dec (i ≡ k) → (i < k → get_or (listed g k) i 0 ≡ g i) → get_or (listed g k ++ (g k ∷ [])) i 0 ≡ g i
    go (yes e) rec =
        let s = get_or-append_seam (listed g k) (g k) [] 0 in
        rw e (rw long at s)
    go (no e) rec = get_or-append (listed g k) (g k ∷ []) 0 i (omega (arith, long)) ∙ rec (omega arith)

module _ (f : ℕ → ℕ → ℕ) where
  ends_long : (xs : List ℕ) → length (ends f xs) ≡ length xs
  unfolding ends
  ends_long xs = length-listed (side f xs) (length xs)

  ends_at : (xs : List ℕ) (i : ℕ) → i < length xs → get_or (ends f xs) i 0 ≡ side f xs i
  unfolding ends
  ends_at xs i l = listed_at (side f xs) (length xs) i l

  -- a place of the first ring, and one of the others
  pub all_first : (xs : List ℕ) (xss : List (List ℕ)) (i : ℕ) → i < length xs → get_or (ends_of_all f (xs ∷ xss)) i 0 ≡ side f xs i
  unfolding ends_of_all
  all_first xs xss i l = get_or-append (ends f xs) (ends_of_all f xss) 0 i (omega (arith, ends_long xs)) ∙ ends_at xs i l

  pub all_later : (xs : List ℕ) (xss : List (List ℕ)) (i : ℕ) → get_or (ends_of_all f (xs ∷ xss)) (length xs + i) 0 ≡ get_or (ends_of_all f xss) i 0
  unfolding ends_of_all
  all_later xs xss i = rw (← ends_long xs) (get_or-append-add (ends f xs) (ends_of_all f xss) i 0)

  pub all_long : (xs : List ℕ) (xss : List (List ℕ)) → length (ends_of_all f (xs ∷ xss)) ≡ length xs + length (ends_of_all f xss)
  unfolding ends_of_all
  all_long xs xss = omega (arith, length-append (ends f xs) (ends_of_all f xss), ends_long xs)

-- ---- which nodes stand there

-- all nodes of the rings are below m
unfoldable pub Below : ℕ → List (List ℕ) → Type 0
Below m [] = Unit
Below m (xs ∷ xss) = ((i : ℕ) → i < length xs → get_or xs i 0 < m) × Below m xss

pub below_append : (m : ℕ) (xss yss : List (List ℕ)) → Below m xss → Below m yss → Below m (xss ++ yss)
unfolding Below
below_append m [] yss h g = g
below_append m (xs ∷ xss) yss h g = (h.0, below_append m xss yss h.1 g)

pub below_cut : (m : ℕ) (l xs : List ℕ) → sum_of l ≤ length xs → ((i : ℕ) → i < sum_of l → get_or xs i 0 < m) → Below m (cut l xs)
unfolding Below cut sum_of
below_cut m [] xs h g = tt
below_cut m (n ∷ l) xs h g = (first, below_cut m l (drop n xs) (omega (arith, length-drop n xs)) later)
  where
    first : (i : ℕ) → i < length (take n xs) → get_or (take n xs) i 0 < m
    first i k =
        let e = length-take-le n xs (omega arith) in
        rw (get_or-take n xs i 0 (omega arith)) (g i (omega arith))

    later : (i : ℕ) → i < sum_of l → get_or (drop n xs) i 0 < m
    later i k = rw (get_or-drop n xs i 0) (g (n + i) (omega arith))

-- of each side the lower node is not above the higher one, and both are below m
pub record Place (m l h : ℕ) : Type 0 where
  pub order : l ≤ h
  pub small : h < m

place_side : (m x y : ℕ) → x < m → y < m → Place m (lower x y) (higher x y)
place_side m x y k g =
    elim (order_cases x y) [
      | inl e ↦ rw (e.1, e.2) (record { order = e.0; small = g })
      | inr e ↦ rw (e.1, e.2) (record { order = e.0; small = k })
    ]

pub places : (m : ℕ) (rings : List (List ℕ)) → Below m rings → (i : ℕ) → i < length (ends_of_all lower rings) → Place m (get_or (ends_of_all lower rings) i 0) (get_or (ends_of_all higher rings) i 0)
unfolding Below
places m [] b i l = absurd (none l)
  where
    none : i < length (ends_of_all lower []) → ⊥
    none = unfold ends_of_all in (λ k. omega arith)
places m (xs ∷ xss) b i l = go (dec_lt i (length xs)) (λ j k. places m xss b.1 j k)
  where
    L : List ℕ
    L = ends_of_all lower (xs ∷ xss)

    H : List ℕ
    H = ends_of_all higher (xs ∷ xss)

    go : Dec (i < length xs) → ((j : ℕ) → j < length (ends_of_all lower xss) → Place m (get_or (ends_of_all lower xss) j 0) (get_or (ends_of_all higher xss) j 0)) → Place m (get_or L i 0) (get_or H i 0)
    go (yes k) rec = rw (all_first lower xs xss i k, all_first higher xs xss i k) (place_side m _ _ (b.0 i k) (b.0 (next (length xs) i) (next_below (length xs) i k)))
    go (no k) rec =
        let e : i ≡ length xs + (i - length xs) = omega arith in
        let j : i - length xs < length (ends_of_all lower xss) = omega (arith, all_long lower xs xss) in
        rw (e, all_later lower xs xss (i - length xs), all_later higher xs xss (i - length xs)) (rec (i - length xs) j)
