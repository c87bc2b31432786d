-- A call of the crates below answered, and its counts in their slice: the call as it is passed on.
use mathlib.Core.Path.{◌≡◌, ap}
use mathlib.Core.List.{List}
use Prim.Native.Nat.{ℕ}
use borrow.Author.Tests.{eq-eqb, ne_eqb}
use lib.Ieee.{Float}
use lib.ListN.{length, replicate}
use Rattle.state.specs.Outcome.{Outcome}
use Rattle.state.specs.declared.Counts.{Counts}
use Rattle.state.specs.State.{Held, Lengths, no_counts, zeros}
use Rattle.state.specs.Call.{Left, answer_counts, answer_number, held, left}
use Rattle.exports_counts.specs.Calls.{count_list, counts_from, passed, passed_as, passed_with, job_passed, state_passed}

-- the number and the counts of an answer, put beside the buffers that it left
answered : {number : ℕ} {C : List ℕ} (p : List Float) (q n f : List ℕ) (k : Counts) (r : Outcome Counts) → (number ≡ answer_number r) × (C ≡ count_list (answer_counts k r))
    → passed number p q n f C ≡ passed_as (left r (held p q n f k))
answered p q n f k r e = rw (e.0, e.1)

-- ---- a call on a job, made with options O that the call below gets as o

module _ {O : Type 0} (call : O → Left) (o o' : O) (same : o ≡ o') (l : Lengths) (p : List Float) (q n f c : List ℕ) where
  pub job_short : {C : List ℕ} → (length c ≡ 8 → ⊥) → held p q n f no_counts ≡ zeros l → C ≡ replicate (length c) 0 → passed 1 p q n f C ≡ job_passed (call o') l (length c)
  unfolding job_passed
  job_short g z e = rw (ne_eqb (length c) 8 g, e) (ap (λ (b : Held). passed_with 1 b (replicate (length c) 0)) z)

  pub job_answered : {number : ℕ} {C : List ℕ} → length c ≡ 8 → (k : Counts) → k ≡ no_counts → (r : Outcome Counts) → left r (held p q n f no_counts) ≡ call o
      → (number ≡ answer_number r) × (C ≡ count_list (answer_counts k r)) → passed number p q n f C ≡ job_passed (call o') l (length c)
  unfolding job_passed
  job_answered eight k none r made e = rw (eq-eqb (length c) 8 eight, ← same, ← made) (answered p q n f no_counts r (rw none at e))

-- ---- a call on a state, on what was held before

module _ {O : Type 0} (call : O → Held → Left) (o o' : O) (same : o ≡ o') (p₀ : List Float) (q₀ n₀ f₀ c : List ℕ) where
  pub state_short : (length c ≡ 8 → ⊥) → passed 1 p₀ q₀ n₀ f₀ c ≡ state_passed (call o') p₀ q₀ n₀ f₀ c
  unfolding state_passed
  state_short g = rw (ne_eqb (length c) 8 g)

  pub state_answered : {number : ℕ} {C : List ℕ} (p : List Float) (q n f : List ℕ) → length c ≡ 8 → (k : Counts) → k ≡ counts_from c → (r : Outcome Counts)
      → left r (held p q n f k) ≡ call o (held p₀ q₀ n₀ f₀ k) → (number ≡ answer_number r) × (C ≡ count_list (answer_counts k r)) → passed number p q n f C ≡ state_passed (call o') p₀ q₀ n₀ f₀ c
  unfolding state_passed
  state_answered p q n f eight k read r made e = rw (eq-eqb (length c) 8 eight, ← same, ← read, ← made) (answered p q n f k r e)
