-- The higher nodes along a chain.
use mathlib.Core.Path.{◌≡◌, refl, ap, sym, ◌∙◌}
use mathlib.Core.List.{List, [], ◌∷◌}
use Prim.Native.Nat.{ℕ, zero, suc, ◌-◌, ◌≤◌, ◌<◌}
use native.Mathlib.Omega.{arith}
use native.Mathlib.Decide.{ℕ_discrete}
use borrow.Author.Tests.{ne_eqb}
use lib.ListN.{length, get_or, set}
use lib.Seq.{get_or-set_other}
use Rattle.state.specs.Limits.{point_limit}
use Rattle.pair_counts.specs.Sides.{side_limit}
use Rattle.pair_counts.specs.Chains.{along, chain, Walk}
use Rattle.pair_counts.specs.Tally.{times}
use Rattle.pair_counts.proofs.Tallies.{times_none, times_here, times_other, times_at}

-- behind each of the first n places stands a lower one, or none
abbrev pub Falls : List ℕ → ℕ → Type 0
Falls behind n = (p : ℕ) → p < n → get_or behind p 0 ≤ p

module _ (behind highs : List ℕ) where
  along_none : (k : ℕ) → along behind highs k 0 ≡ []
  unfolding along
  along_none zero = refl
  along_none (suc k) = refl

  along_more : (k p : ℕ) → along behind highs (suc k) (suc p) ≡ get_or highs p 0 ∷ along behind highs k (get_or behind p 0)
  unfolding along
  along_more k p =
      let e : suc p - 1 ≡ p = omega arith in
      rw (ne_eqb (suc p) 0 (λ z. omega arith), e)

  -- they do not turn on how many are allowed
  along_enough : (k j at : ℕ) → Falls behind at → at ≤ k → at ≤ j → along behind highs k at ≡ along behind highs j at
  along_enough zero zero at f l m = refl
  along_enough zero (suc j) zero f l m = along_none 0 ∙ sym (along_none (suc j))
  along_enough zero (suc j) (suc p) f l m = absurd (omega arith)
  along_enough (suc k) zero zero f l m = along_none (suc k) ∙ sym (along_none 0)
  along_enough (suc k) zero (suc p) f l m = absurd (omega arith)
  along_enough (suc k) (suc j) zero f l m = along_none (suc k) ∙ sym (along_none (suc j))
  along_enough (suc k) (suc j) (suc p) f l m =
      let d = f p (omega arith) in
      along_more k p ∙ ap (λ r. get_or highs p 0 ∷ r) (along_enough k j (get_or behind p 0) (λ q h. f q (omega arith)) (omega arith) (omega arith)) ∙ sym (along_more j p)

  pub chain_end : chain behind highs 0 ≡ []
  unfolding chain
  chain_end = along_none 0

  pub chain_more : (p : ℕ) → Falls behind (suc p) → chain behind highs (suc p) ≡ get_or highs p 0 ∷ chain behind highs (get_or behind p 0)
  unfolding chain
  chain_more p f =
      let d = f p (omega arith) in
      along_more p p ∙ ap (λ r. get_or highs p 0 ∷ r) (along_enough p (get_or behind p 0) (get_or behind p 0) (λ q h. f q (omega arith)) (omega arith) (omega arith))

  along-times : (v k at : ℕ) → times v (along behind highs k at) ≤ k
  unfolding along
  along-times v zero at = omega (arith, times_none v)
  along-times v (suc k) zero = omega (arith, times_none v)
  along-times v (suc k) (suc p) = rw (along_more k p) (go (ℕ_discrete v (get_or highs p 0)) (along-times v k (get_or behind p 0)))
    where
      go : Dec (v ≡ get_or highs p 0) → times v (along behind highs k (get_or behind p 0)) ≤ k → times v (get_or highs p 0 ∷ along behind highs k (get_or behind p 0)) ≤ suc k
      go (yes e) h = omega (arith, times_here v (get_or highs p 0) (along behind highs k (get_or behind p 0)) e)
      go (no e) h = omega (arith, times_other v (get_or highs p 0) (along behind highs k (get_or behind p 0)) e)

  pub chain-times : (v at : ℕ) → times v (chain behind highs at) ≤ at
  unfolding chain
  chain-times v at = along-times v at at

  -- a node of the chain is the higher node of one of the first n sides
  along_small : (m n v k at : ℕ) → Falls behind n → ((p : ℕ) → p < n → get_or highs p 0 < m) → at ≤ n → 0 < times v (along behind highs k at) → v < m
  unfolding along
  along_small m n v zero at f small l h = absurd (omega (arith, times_none v))
  along_small m n v (suc k) zero f small l h = absurd (omega (arith, times_none v))
  along_small m n v (suc k) (suc p) f small l h =
      go (ℕ_discrete v (get_or highs p 0)) (rw (along_more k p) at h) (λ g. along_small m n v k (get_or behind p 0) f small (omega (arith, f p l)) g)
    where
      go : Dec (v ≡ get_or highs p 0) → 0 < times v (get_or highs p 0 ∷ along behind highs k (get_or behind p 0)) → (0 < times v (along behind highs k (get_or behind p 0)) → v < m) → v < m
      go (yes e) h later = omega (arith, small p l)
      go (no e) h later = later (omega (arith, times_other v (get_or highs p 0) (along behind highs k (get_or behind p 0)) e))

  -- a store at place i leaves the chains from lower places as they were
  along-set : (k at i x : ℕ) → Falls behind i → at ≤ i → along (set behind i x) highs k at ≡ along behind highs k at
  unfolding along
  along-set zero at i x f l = refl
  along-set (suc k) zero i x f l = refl
  along-set (suc k) (suc p) i x f l =
      let d : (p ≡ i → ⊥) = λ e. omega arith in
      let s = get_or-set_other behind i p x 0 d in
      let rest = along-set k (get_or behind p 0) i x f (omega (arith, f p l)) in
      let e : suc p - 1 ≡ p = omega arith in
      rw (ne_eqb (suc p) 0 (λ z. omega arith), e, s, rest)

  pub chain-set : (at i x : ℕ) → Falls behind i → at ≤ i → chain (set behind i x) highs at ≡ chain behind highs at
  unfolding chain
  chain-set at i x f l = along-set at at i x f l

-- ---- one turn along a chain

pub shorter : {xs ys : List ℕ} {x : ℕ} → xs ≡ x ∷ ys → length ys < length xs
shorter e = rw e (omega arith)

pub chain_done : (highs behind : List ℕ) (at : ℕ) → (1 ≤ at → ⊥) → chain behind highs at ≡ []
chain_done highs behind at none =
    let z : at ≡ 0 = omega (arith, none) in
    rw z (chain_end behind highs)

-- `at` is not 0, `node` is the higher node there, and `place` the place behind it
module _ (highs behind : List ℕ) (at node place : ℕ) (walk : Walk highs behind at) (more : at ≡ 0 → ⊥) (node-is : node ≡ get_or highs (at - 1) 0) (place_is : place ≡ get_or behind (at - 1) 0) where
  pub turn_small : node < point_limit
  turn_small = let w = walk.within in omega (arith, walk.nodes (at - 1) (omega arith))

  pub turn_falls : place < at
  turn_falls = let w = walk.within in omega (arith, walk.falls (at - 1) (omega arith))

  pub turn_on : Walk highs behind place
  turn_on = let f = turn_falls in let w = walk.within in record { within = omega arith; few = walk.few; long = walk.long; falls = walk.falls; nodes = walk.nodes }

module _ (highs behind : List ℕ) (at : ℕ) (walk : Walk highs behind at) where
  pub turn-chain : (i : ℕ) → i ≡ at - 1 → 1 ≤ at → chain behind highs at ≡ get_or highs i 0 ∷ chain behind highs (get_or behind i 0)
  turn-chain i e more = rw e (go at walk more)
    where
      go : (n : ℕ) → Walk highs behind n → 1 ≤ n → chain behind highs n ≡ get_or highs (n - 1) 0 ∷ chain behind highs (get_or behind (n - 1) 0)
      go zero w e = absurd (omega arith)
      go (suc p) w e =
          let z : suc p - 1 ≡ p = omega arith in
          let l = w.within in
          rw z (chain_more behind highs p (λ q h. w.falls q (omega arith)))

  -- a node of the chain is below the limit
  pub chain_small : (v : ℕ) → 0 < times v (chain behind highs at) → v < point_limit
  unfolding chain
  chain_small v h = along_small behind highs point_limit (length highs) v at at walk.falls walk.nodes walk.within h

  pub place_small : (k d : ℕ) → k < length (chain behind highs at) → get_or (chain behind highs at) k d < point_limit
  place_small k d l = chain_small _ (times_at (chain behind highs at) k d l)

  pub first_small : {node : ℕ} {left : List ℕ} → chain behind highs at ≡ node ∷ left → node < point_limit
  first_small {node} {left} e = chain_small node (rw e (omega (arith, times_here node node left refl)))

  -- no node stands there more often than there are sides
  pub chain_few : (v : ℕ) → times v (chain behind highs at) ≤ side_limit
  chain_few v = let f = walk.few in let w = walk.within in omega (arith, chain-times behind highs v at)
