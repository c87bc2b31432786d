-- A call on a given state, from the tests that its code makes one after the other, whatever its step.
use mathlib.Core.Path.{◌≡◌, ◌∙◌}
use mathlib.Core.Bool.{Bool, true, false}
use Prim.Native.Nat.{ℕ}
use borrow.Author.Tests.{eq-eqb, ne_eqb}
use Rattle.state.specs.declared.refusal.Refusal.{Refusal}
use Rattle.state.specs.State.{State, Held, reading}
use Rattle.state.specs.Outcome.{Outcome, refused, first_true}
use Rattle.state.specs.Refusals.{number}
use Rattle.state.specs.Given.{wrong_state}
use Rattle.state.specs.Call.{Left, left, state_left, on_state}
use Rattle.state.proofs.Refusing.{number_nonzero}

-- r is the number of the job's input
module _ (b : Held) (step : State → Outcome State) (r : ℕ) where
  pub input_refuses : (e : Refusal) → number e ≡ r → left (refused (number e)) b ≡ on_state r b step
  unfolding on_state state_left first_true
  input_refuses e k = let n : r ≡ 0 → ⊥ = λ z. number_nonzero e (k ∙ z) in rw (ne_eqb r 0 n, ne_eqb r 0 n, k)

  module _ (z : r ≡ 0) (w : Bool) (f : w ≡ wrong_state b) where
    pub state_refuses : w ≡ true → left (refused 25) b ≡ on_state r b step
    unfolding on_state state_left first_true
    state_refuses h = rw (eq-eqb r 0 z, ← f, h)

    pub state_stands : w ≡ false → (a : Left) → a ≡ state_left b (step (reading b)) → a ≡ on_state r b step
    unfolding on_state first_true
    state_stands h a k = rw (eq-eqb r 0 z, ← f, h) k
