-- A test made at each place, as a loop makes it that stops at the first place that fails; and what a test on a computed value says of the definition's.
use mathlib.Core.Path.{◌≡◌, refl, sym}
use mathlib.Core.Bool.{Bool, true, false, not, ◌&&◌}
use mathlib.Core.Logic.{inl, inr}
use Prim.Native.Nat.{ℕ, zero, suc, ◌+◌, ◌-◌, ◌<◌}
use native.Mathlib.Nat.{add-zero, add-suc, eq-or-lt_of_le, le_of_suc-le-suc}
use native.Mathlib.Numerals.{add-one}
use native.Mathlib.Omega.{arith}
use lib.Ieee.{Float, lt}
use Rattle.state.proofs.Basics.{and_false}
use Rattle.rules.specs.Checks.{every}
use Rattle.rules.proofs.Lists.{and_left, and_right}

-- what holds at each place holds at one of them
pub every_at : (p : ℕ → Bool) (n i : ℕ) → every p n ≡ true → i < n → p i ≡ true
unfolding every
every_at p zero i e l = absurd (omega arith)
every_at p (suc n) i e l =
    elim (eq-or-lt_of_le (le_of_suc-le-suc l)) [
      | inl d ↦ rw d (and_right (every p n) (p n) e)
      | inr m ↦ every_at p n i (and_left (every p n) (p n) e) m
    ]

-- and what holds at each of them holds at each place
pub every_of : (p : ℕ → Bool) (n : ℕ) → ((i : ℕ) → i < n → p i ≡ true) → every p n ≡ true
unfolding every
every_of p zero h = refl
every_of p (suc n) h = rw (every_of p n (λ i l. h i (omega arith)), h n (omega arith))

-- the same test by another name
pub every_same : (p q : ℕ → Bool) → ((i : ℕ) → p i ≡ q i) → (n : ℕ) → every p n ≡ every q n
unfolding every
every_same p q h zero = refl
every_same p q h (suc n) = rw (every_same p q h n, h n)

module _ (p : ℕ → Bool) where
  pub every_none : every p 0 ≡ true
  unfolding every
  every_none = refl

  pub every_more : (i : ℕ) → every p i ≡ true → p i ≡ true → every p (i + 1) ≡ true
  unfolding every
  every_more i h g = rw (add-one, h, g)

  -- a test made at each place, however those before came out
  pub every-next : (i : ℕ) {b t : Bool} → b ≡ every p i → t ≡ p i → (b && t) ≡ every p (i + 1)
  unfolding every
  every-next i h g = rw (add-one, h, g)

  fails_after : (i d : ℕ) → p i ≡ false → every p (suc (i + d)) ≡ false
  unfolding every
  fails_after i zero h = rw (add-zero, h) (and_false (every p i))
  fails_after i (suc d) h = rw (add-suc, fails_after i d h)

  -- one place that fails is enough
  pub every_stops : (i n : ℕ) → i < n → p i ≡ false → false ≡ every p n
  every_stops i n l h =
      let e : suc (i + (n - suc i)) ≡ n = omega arith in
      sym (rw e at (fails_after i (n - suc i) h))

  pub every_end : (i n : ℕ) → every p i ≡ true → i ≡ n → true ≡ every p n
  every_end i n h e = rw (← e) (sym h)

-- a value computed at a, which is a'
pub moved : {A B : Type 0} {a a' : A} {d : B} (f : A → B) → d ≡ f a → a ≡ a' → d ≡ f a'
moved f h e = rw (← e) h

-- a flag computed at a, which is a', came out as b
pub seen : {A : Type 0} {a a' : A} {r b : Bool} (f : A → Bool) → r ≡ f a → a ≡ a' → r ≡ b → f a' ≡ b
seen f h e g = rw (← e, ← h) g

-- a length that was compared with the least one
pub too_near : (least : Float) {d e : Float} → d ≡ e → lt d least ≡ true → not (lt e least) ≡ false
too_near least h g = rw (← h, g)

pub far_enough : (least : Float) {d e : Float} → d ≡ e → lt d least ≡ false → not (lt e least) ≡ true
far_enough least h g = rw (← h, g)
