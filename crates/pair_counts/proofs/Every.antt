-- Tests that hold at each of some places.
use mathlib.Core.Path.{◌≡◌, refl, ap₂, sym, ◌∙◌}
use mathlib.Core.Bool.{Bool, true, false, ◌&&◌, true≢false}
use Prim.Native.Nat.{ℕ, zero, suc, ◌+◌, ◌<◌}
use native.Mathlib.Numerals.{add-one}
use native.Mathlib.Omega.{arith}
use native.Mathlib.Decide.{ℕ_discrete}
use Rattle.pair_counts.specs.Twice.{every}

pub and_parts : (a b : Bool) → (a && b) ≡ true → (a ≡ true) × (b ≡ true)
and_parts true b e = (refl, e)
and_parts false b e = absurd (true≢false (sym e))

pub and_both : (a b : Bool) → a ≡ true → b ≡ true → (a && b) ≡ true
and_both a b e f = rw (e, f)

-- two tests of which each is true where the other is
pub same_test : (a b : Bool) → (a ≡ true → b ≡ true) → (b ≡ true → a ≡ true) → a ≡ b
same_test true b f g = sym (f refl)
same_test false true f g = g refl
same_test false false f g = refl

module _ (p : ℕ → Bool) where
  pub every_at : (k : ℕ) → every p k ≡ true → (i : ℕ) → i < k → p i ≡ true
  unfolding every
  every_at zero e i l = absurd (omega arith)
  every_at (suc k) e i l = go (ℕ_discrete i k) (λ f m. every_at k f i m)
    where
      go : Dec (i ≡ k) → (every p k ≡ true → i < k → p i ≡ true) → p i ≡ true
      go (yes z) before = rw z (and_parts (every p k) (p k) e).1
      go (no z) before = before (and_parts (every p k) (p k) e).0 (omega arith)

  pub every_all : (k : ℕ) → ((i : ℕ) → i < k → p i ≡ true) → every p k ≡ true
  unfolding every
  every_all zero h = refl
  every_all (suc k) h = and_both (every p k) (p k) (every_all k (λ i l. h i (omega arith))) (h k (omega arith))

  pub every_none : every p 0 ≡ true
  unfolding every
  every_none = refl

  pub every_more : (k : ℕ) → every p k ≡ true → p k ≡ true → every p (k + 1) ≡ true
  unfolding every
  every_more k e f = rw add-one (and_both (every p k) (p k) e f)

  -- where it fails at a place it fails
  pub every_not : (k i : ℕ) → i < k → p i ≡ false → every p k ≡ false
  every_not k i l e = go (every p k) refl
    where
      go : (t : Bool) → every p k ≡ t → every p k ≡ false
      go true f = absurd (true≢false (sym (every_at k f i l) ∙ e))
      go false f = f

pub every_same : (p q : ℕ → Bool) (k : ℕ) → ((i : ℕ) → i < k → p i ≡ q i) → every p k ≡ every q k
unfolding every
every_same p q zero h = refl
every_same p q (suc k) h = ap₂ (λ a b. a && b) (every_same p q k (λ i l. h i (omega arith))) (h k (omega arith))
