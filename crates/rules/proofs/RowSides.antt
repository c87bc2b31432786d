-- The sides of a row's quads: those of the old front, those of the new one, and twice the rungs between them.
use mathlib.Core.Path.{◌≡◌, refl, ap, ◌∙◌}
use mathlib.Core.List.{List, [], ◌∷◌, map, map-append}
use mathlib.Core.Logic.{inl, inr}
use Prim.Native.Nat.{ℕ, zero, suc, ◌+◌, ◌*◌, ◌≤◌, ◌<◌}
use native.Mathlib.Omega.{arith}
use lib.ListN.{length, get_or, length-append}
use Rattle.geometry.specs.Rings.{next}
use Rattle.state.specs.State.{quad, quad_nodes, numbered}
use Rattle.rules.specs.Checks.{row_quads}
use Rattle.pairs.specs.Pairs.{is_pair, sum, sides, sides_of_all}
use Rattle.rules.proofs.Lists.{below_or_from}
use Rattle.pairs.proofs.Sums.{sum_cong, sum_add, sum_none, sum_once, sum-next}
use Rattle.pairs.proofs.Occurs.{occurs, occurs_none, numbered_at}
use Rattle.state.proofs.Growing.{length-numbered}
use Rattle.pairs.proofs.Sides.{pair_cases, pair_le, pair_not_left, pair_flip, pair_swap, next_below, quad-sides, sides-append_all}

pub row-length : (old : List ℕ) (first k : ℕ) → length (row_quads old first k) ≡ k
unfolding row_quads
row-length old first zero = refl
row-length old first (suc k) = let e = row-length old first k in length-append (row_quads old first k) _ ∙ omega arith

module _ (a b : ℕ) (old : List ℕ) (first : ℕ) where
  abbrev pub n : ℕ
  n = length old

  abbrev pub at : ℕ → ℕ
  at i = get_or old i 0

  -- the pair between old node i and new node i
  abbrev pub rung : ℕ → ℕ
  rung i = is_pair a b (at i) (first + i)

  unfoldable pub rungs : ℕ
  rungs = sum rung n

  abbrev quad_term : ℕ → ℕ
  quad_term i = is_pair a b (at i) (at (next n i)) + is_pair a b (at (next n i)) (first + next n i) + is_pair a b (first + next n i) (first + i) + is_pair a b (first + i) (at i)

  row_terms : (k : ℕ) → sides_of_all a b (map quad_nodes (row_quads old first k)) ≡ sum quad_term k
  unfolding row_quads sides_of_all sum
  row_terms zero = refl
  row_terms (suc k) =
      let q = quad (at k) (at (next n k)) (first + next n k) (first + k) in
      rw (map-append quad_nodes (row_quads old first k) _)
      (omega
      (arith, sides-append_all a b (map quad_nodes (row_quads old first k)) (quad_nodes q ∷ []), row_terms k, quad-sides a b (at k) (at (next n k)) (first + next n k) (first + k)))

  new_sides : sides a b (numbered first n) ≡ sum (λ i. is_pair a b (first + next n i) (first + i)) n
  unfolding sides
  new_sides =
      rw (length-numbered first n)
      (sum_cong _ _ n
      (λ i l. ap (λ u. is_pair a b u (get_or (numbered first n) (next n i) 0)) (numbered_at first n i l) ∙ ap (λ v. is_pair a b (first + i) v) (numbered_at first n (next n i) (next_below n i l)) ∙ pair_swap a b (first + i) (first + next n i)))

  pub row-sides : sides_of_all a b (map quad_nodes (row_quads old first (length old))) ≡ sides a b old + sides a b (numbered first (length old)) + 2 * rungs
  unfolding sides rungs
  row-sides =
      let back : sum (λ i. is_pair a b (first + i) (at i)) n ≡ sum rung n = sum_cong _ _ n (λ i l. pair_swap a b (first + i) (at i)) in
      let ahead : sum (λ i. rung (next n i)) n ≡ sum rung n = sum-next rung n in
      let one = sum_add (λ i. is_pair a b (at i) (at (next n i)) + rung (next n i) + is_pair a b (first + next n i) (first + i)) (λ i. is_pair a b (first + i) (at i)) n in
      let two = sum_add (λ i. is_pair a b (at i) (at (next n i)) + rung (next n i)) (λ i. is_pair a b (first + next n i) (first + i)) n in
      let three = sum_add (λ i. is_pair a b (at i) (at (next n i))) (λ i. rung (next n i)) n in
      omega (arith, row_terms n, new_sides)

  -- ---- the rungs, where the old nodes are below `first`

  module _ (low : (c : ℕ) → first ≤ c → occurs c old ≡ 0) where
    old_low : (i : ℕ) → i < n → at i < first
    old_low i l = elim (below_or_from (at i) first) [ inl h ↦ h | inr h ↦ absurd (occurs_none (at i) old i (low (at i) h) l refl) ]

    -- both nodes are old, both are new, or one is beyond: no rung
    pub rungs_old : a < first → b < first → rungs ≡ 0
    unfolding rungs
    rungs_old p q =
        sum_none rung n
        (λ i l.
        elim (pair_cases a b (at i) (first + i)) [
          | inl h ↦ absurd (omega (arith, h.1))
          | inr (inl h) ↦ absurd (omega (arith, h.0))
          | inr (inr h) ↦ h
        ])

    pub rungs_new : first ≤ a → first ≤ b → rungs ≡ 0
    unfolding rungs
    rungs_new p q =
        sum_none rung n
        (λ i l.
        elim (pair_cases a b (at i) (first + i)) [
          | inl h ↦ absurd (omega (arith, h.0, old_low i l))
          | inr (inl h) ↦ absurd (omega (arith, h.1, old_low i l))
          | inr (inr h) ↦ h
        ])

    -- a node that is neither an old nor a new one is on no rung
    pub rungs_none_left : occurs a old ≡ 0 → ((i : ℕ) → i < length old → a ≡ first + i → ⊥) → rungs ≡ 0
    unfolding rungs
    rungs_none_left z h = sum_none rung n (λ i l. pair_not_left a b (at i) (first + i) (occurs_none a old i z l) (h i l))

    pub rungs_none_right : occurs b old ≡ 0 → ((i : ℕ) → i < length old → b ≡ first + i → ⊥) → rungs ≡ 0
    unfolding rungs
    rungs_none_right z h = sum_none rung n (λ i l. pair_flip a b (at i) (first + i) ∙ pair_not_left b a (at i) (first + i) (occurs_none b old i z l) (h i l))

    pub rungs_once : rungs ≤ 1
    unfolding rungs
    rungs_once =
        sum_once rung n (λ i l. pair_le a b (at i) (first + i))
        (λ i k l m p q.
        elim (pair_cases a b (at i) (first + i)) [
          | inl h ↦
              elim (pair_cases a b (at k) (first + k)) [
                | inl g ↦ omega (arith, h.1, g.1)
                | inr (inl g) ↦ absurd (omega (arith, h.0, g.0, old_low i l))
                | inr (inr g) ↦ absurd (omega (arith, g))
              ]
          | inr (inl h) ↦
              elim (pair_cases a b (at k) (first + k)) [
                | inl g ↦ absurd (omega (arith, h.0, g.0, old_low k m))
                | inr (inl g) ↦ omega (arith, h.0, g.0)
                | inr (inr g) ↦ absurd (omega (arith, g))
              ]
          | inr (inr h) ↦ absurd (omega (arith, h))
        ])
