-- Sides chained by their lower node, one a turn.
use mathlib.Core.Path.{◌≡◌, refl, ap, sym, ◌∙◌}
use mathlib.Core.List.{List, [], ◌∷◌}
use Prim.Native.Nat.{ℕ, suc, ◌+◌, ◌≤◌, ◌<◌}
use native.Mathlib.Numerals.{add-one}
use native.Mathlib.Omega.{arith}
use native.Mathlib.Decide.{ℕ_discrete}
use borrow.Author.Tests.{eq-eqb, ne_eqb}
use lib.ListN.{length, get_or, set, replicate}
use lib.Seq.{get_or-set_same, get_or-set_other}
use Rattle.state.specs.Limits.{point_limit}
use Rattle.pair_counts.specs.Sides.{side_limit}
use Rattle.pair_counts.specs.Chains.{highs_at, chain, Linked, Walk}
use Rattle.pair_counts.specs.Twice.{every}
use Rattle.pair_counts.specs.Tally.{each_twice, sides_twice}
use Rattle.pair_counts.proofs.Every.{every_same}
use Rattle.pair_counts.proofs.Tallies.{zeros_at}
use Rattle.pair_counts.proofs.Walking.{Falls, chain_end, chain_more, chain-set}

pub highs_none : (lows highs : List ℕ) (u : ℕ) → highs_at lows highs u 0 ≡ []
unfolding highs_at
highs_none lows highs u = refl

pub highs_here : (lows highs : List ℕ) (u n : ℕ) → get_or lows n 0 ≡ u → highs_at lows highs u (suc n) ≡ get_or highs n 0 ∷ highs_at lows highs u n
unfolding highs_at
highs_here lows highs u n e = rw (eq-eqb (get_or lows n 0) u e)

pub highs_other : (lows highs : List ℕ) (u n : ℕ) → (get_or lows n 0 ≡ u → ⊥) → highs_at lows highs u (suc n) ≡ highs_at lows highs u n
unfolding highs_at
highs_other lows highs u n e = rw (ne_eqb (get_or lows n 0) u e)

pub none_linked : (lows behind first : List ℕ) → first ≡ replicate point_limit 0 → Linked lows behind first 0
none_linked lows behind first e = record {
  within = λ u l. omega (arith, zeros_at point_limit first e u l);
  falls = λ p l. absurd (omega arith);
  chains = λ highs u l. rw (zeros_at point_limit first e u l) (chain_end behind highs ∙ sym (highs_none lows highs u));
}

module _ (lows behind first : List ℕ) (i x : ℕ) (linked : Linked lows behind first i) (is : x ≡ get_or lows i 0) (small : x < point_limit) (long : length first ≡ point_limit) (room : i < length behind) where
  abbrev behind' : List ℕ
  behind' = set behind i (get_or first x 0)

  abbrev first' : List ℕ
  first' = set first x (i + 1)

  at_same : get_or first' x 0 ≡ i + 1
  at_same = get_or-set_same first x (i + 1) 0 (omega arith)

  here : get_or behind' i 0 ≡ get_or first x 0
  here = get_or-set_same behind i (get_or first x 0) 0 room

  falls' : Falls behind' (i + 1)
  falls' p l = go (ℕ_discrete p i)
    where
      go : Dec (p ≡ i) → get_or behind' p 0 ≤ p
      go (yes e) = let w = linked.within x small in let h = here in rw e (omega arith)
      go (no e) = let f = linked.falls p (omega arith) in let o = get_or-set_other behind i p (get_or first x 0) 0 e in omega arith

  within' : (u : ℕ) → u < point_limit → get_or first' u 0 ≤ i + 1
  within' u l = go (ℕ_discrete u x)
    where
      go : Dec (u ≡ x) → get_or first' u 0 ≤ i + 1
      go (yes e) = let s = at_same in rw e (omega arith)
      go (no e) = let w = linked.within u l in let o = get_or-set_other first x u (i + 1) 0 e in omega arith

  -- what stood before is as it was
  before : (highs : List ℕ) (u : ℕ) → u < point_limit → chain behind' highs (get_or first u 0) ≡ highs_at lows highs u i
  before highs u l = chain-set behind highs (get_or first u 0) i (get_or first x 0) linked.falls (linked.within u l) ∙ linked.chains highs u l

  chains' : (highs : List ℕ) (u : ℕ) → u < point_limit → chain behind' highs (get_or first' u 0) ≡ highs_at lows highs u (i + 1)
  chains' highs u l = rw add-one (go (ℕ_discrete u x))
    where
      go : Dec (u ≡ x) → chain behind' highs (get_or (set first x (suc i)) u 0) ≡ highs_at lows highs u (suc i)
      go (yes e) =
          let s : get_or (set first x (suc i)) u 0 ≡ suc i = rw e (get_or-set_same first x (suc i) 0 (omega arith)) in
          let f : Falls behind' (suc i) = λ p h. falls' p (omega arith) in
          ap (chain behind' highs) s ∙ chain_more behind' highs i f ∙ ap (λ r. get_or highs i 0 ∷ r) (ap (chain behind' highs) (here ∙ ap (λ k. get_or first k 0) (sym e)) ∙ before highs u l)
          ∙ sym (highs_here lows highs u i (sym (e ∙ is)))
      go (no e) =
          ap (chain behind' highs) (get_or-set_other first x u (suc i) 0 e) ∙ before highs u l ∙ sym (highs_other lows highs u i (λ z. e (sym (is ∙ z))))

  pub link_step : Linked lows behind' first' (i + 1)
  link_step = record { within = within'; falls = falls'; chains = chains' }

-- what going along the chains of all sides needs
pub linked_walk : (lows highs behind first : List ℕ) (u : ℕ) → Linked lows behind first (length lows) → length highs ≡ length lows → length lows ≤ side_limit → length lows ≤ length behind
    → ((i : ℕ) → i < length lows → get_or highs i 0 < point_limit) → u < point_limit → Walk highs behind (get_or first u 0)
linked_walk lows highs behind first u linked e few long small l = record {
  within = omega (arith, linked.within u l);
  few = omega arith;
  long = omega arith;
  falls = λ p h. linked.falls p (omega arith);
  nodes = λ p h. small p (omega arith);
}

-- and the test of each chain is the test of the sides
pub linked_twice : (lows highs behind first : List ℕ) → Linked lows behind first (length lows) → every (λ u. each_twice (chain behind highs (get_or first u 0))) point_limit ≡ sides_twice lows highs
unfolding sides_twice
linked_twice lows highs behind first linked = every_same _ _ point_limit (λ u l. ap each_twice (linked.chains highs u l))
