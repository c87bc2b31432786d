-- Two nodes of a ring that are no neighbours are on none of its sides.
use mathlib.Core.Path.{◌≡◌, ap, sym, ◌∙◌}
use mathlib.Core.List.{List}
use mathlib.Core.Logic.{◌⊎◌, inl, inr}
use Prim.Native.Nat.{ℕ, ◌≤◌, ◌<◌}
use native.Mathlib.Omega.{arith}
use lib.ListN.{length, get_or}
use Rattle.geometry.specs.Rings.{next}
use Rattle.pairs.specs.Pairs.{is_pair, sides}
use Rattle.pairs.proofs.Sums.{sum_none}
use Rattle.pairs.proofs.Occurs.{occurs, occurs_here, occurs_once}
use Rattle.pairs.proofs.Sides.{pair_cases, pair_flip, next_below}

module _ (xs : List ℕ) (one : (c : ℕ) → occurs c xs ≤ 1) (u v : ℕ) (in_u : u < length xs) (in_v : v < length xs) (apart_u_v : next (length xs) u ≡ v → ⊥) (apart_v_u : next (length xs) v ≡ u → ⊥) where
  abbrev at : ℕ → ℕ
  at i = get_or xs i 0

  abbrev n : ℕ
  n = length xs

  place : (i k : ℕ) → i < n → k < n → at i ≡ at k → i ≡ k
  place i k l m e = occurs_once xs i k one l m e

  -- a side from i to the next place that is the pair of the nodes at u and v would make them neighbours
  no_side : (a b i : ℕ) → i < n → (a ≡ at u) × (b ≡ at v) → is_pair a b (at i) (at (next n i)) ≡ 0
  no_side a b i l e =
      elim (pair_cases a b (at i) (at (next n i))) [
        | inl h ↦
            let x : u ≡ i = place u i in_u l (sym e.0 ∙ h.0) in
            let y : v ≡ next n i = place v (next n i) in_v (next_below n i l) (sym e.1 ∙ h.1) in
            absurd (apart_u_v (ap (next n) x ∙ sym y))
        | inr (inl h) ↦
            let x : v ≡ i = place v i in_v l (sym e.1 ∙ h.1) in
            let y : u ≡ next n i = place u (next n i) in_u (next_below n i l) (sym e.0 ∙ h.0) in
            absurd (apart_v_u (ap (next n) x ∙ sym y))
        | inr (inr h) ↦ h
      ]

  -- the chord between them
  pub chord_apart : (a b : ℕ) → 0 < is_pair a b (get_or xs u 0) (get_or xs v 0) → (sides a b xs ≡ 0) × (0 < occurs a xs) × (0 < occurs b xs)
  unfolding sides
  chord_apart a b h = go (pair_cases a b (at u) (at v))
    where
      found : (c k : ℕ) → k < n → c ≡ at k → 0 < occurs c xs
      found c k l e = rw e (occurs_here xs k l)

      go : ((a ≡ at u) × (b ≡ at v) × (is_pair a b (at u) (at v) ≡ 1)) ⊎ (((a ≡ at v) × (b ≡ at u) × (is_pair a b (at u) (at v) ≡ 1)) ⊎ (is_pair a b (at u) (at v) ≡ 0))
          → (sides a b xs ≡ 0) × (0 < occurs a xs) × (0 < occurs b xs)
      go (inl g) = (sum_none _ n (λ i l. no_side a b i l (g.0, g.1)), found a u in_u g.0, found b v in_v g.1)
      go (inr (inl g)) = (sum_none _ n (λ i l. pair_flip a b _ _ ∙ no_side b a i l (g.1, g.0)), found a v in_v g.0, found b u in_u g.1)
      go (inr (inr g)) = absurd (omega arith)
