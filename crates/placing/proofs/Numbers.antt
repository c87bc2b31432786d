-- The numbers 7 and 10 of a loop, and which side gets one more inner point.
use mathlib.Core.Path.{◌≡◌, refl, sym, ap}
use mathlib.Core.Bool.{Bool, true, false, cond, ◌&&◌}
use mathlib.Core.List.{List, [], ◌∷◌}
use Prim.Native.Nat.{ℕ, ◌+◌, ◌%◌, ◌≤◌, ◌<◌, min}
use native.Mathlib.Omega.{arith}
use lib.Dec.{eqb, ltb}
use lib.Ieee.{Float}
use borrow.Author.Tests.{lt-ltb, le-ltb, eqb-false, eqb-true, ne_eqb}
use Rattle.geometry.specs.Rings.{Ring}
use Rattle.state.specs.Limits.{front_node_limit}
use Rattle.state.specs.Outcome.{Outcome, refused, gives, first_true, test, outcome}
use Rattle.planning.specs.Ring.{loop_ring}
use Rattle.planning.specs.Plan.{inner, inner_sum, longest, total, planned, parts}
use Rattle.std.specs.Prelude.{Result, Option, Some}
use Rattle.std.specs.Bool.{then_some}
use Rattle.std.specs.Option.{option_eq}
use Rattle.state.specs.declared.refusal.Refusal.{Refusal}
use Rattle.placing.specs.Loop.{sample_loop}
use Rattle.placing.specs.Placing.{MadeIs, placed_outcome}

-- ---- the test of number 10, over the nodes planned with those before

module _ {A : Type 0} (x : ℕ) (out : A) where
  abbrev tested : Outcome A
  tested = outcome (first_true (test 10 (ltb front_node_limit x) ∷ [])) out

  pub ten : front_node_limit < x → tested ≡ refused 10
  unfolding first_true
  ten h = rw (lt-ltb front_node_limit x h)

  pub no_number : x ≤ front_node_limit → tested ≡ gives out
  unfolding first_true
  no_number h = rw (le-ltb front_node_limit x h)

-- ---- the plan

eqb_turned : (i k : ℕ) → eqb i k ≡ eqb k i
eqb_turned i k = go (eqb i k) refl
  where
    go : (b : Bool) → eqb i k ≡ b → eqb i k ≡ eqb k i
    go true e = rw (eqb-true i k e)
    go false e = rw (e, ne_eqb k i (λ (q : k ≡ i). eqb-false i k e (sym q)))

module _ (h corner_margin : Float) (r : Ring) where
  -- the capped sum refuses just what the sum refuses, and is the sum when it does not
  pub over : (before t : ℕ) → t ≡ r.size + min (inner_sum h corner_margin r r.size) 2049 → front_node_limit < before + (t + t % 2) → front_node_limit < before + planned h corner_margin r
  unfolding planned total
  over before t e g = go before t r.size (inner_sum h corner_margin r r.size) e g
    where
      go : (b t n s : ℕ) → t ≡ n + min s 2049 → front_node_limit < b + (t + t % 2) → front_node_limit < b + (n + s + (n + s) % 2)
      go b t n s e g = omega arith

  pub within_is : (before t : ℕ) → t ≡ r.size + min (inner_sum h corner_margin r r.size) 2049 → before + (t + t % 2) ≤ front_node_limit → (t ≡ total h corner_margin r) × (t + t % 2 ≡ planned h corner_margin r)
  unfolding planned total
  within_is before t e g = let s = go before t r.size (inner_sum h corner_margin r r.size) e g in (s, ap (λ (n : ℕ). n + n % 2) s)
    where
      go : (b t n s : ℕ) → t ≡ n + min s 2049 → b + (t + t % 2) ≤ front_node_limit → t ≡ n + s
      go b t n s e g = omega arith

  added_to : (b : Bool) (i k : ℕ) → ◌≡◌ {A = ℕ} (cond (b && eqb i k) 1 0) (cond (option_eq eqb (then_some b k) (Some i)) 1 0)
  added_to true i k = rw (eqb_turned i k)
  added_to false i k = refl

  pub parts_are : (t best : ℕ) (longer : Option ℕ) → t ≡ total h corner_margin r → best ≡ (longest h corner_margin r r.size).0 → longer ≡ then_some (eqb (t % 2) 1) best
      → (i : ℕ) → parts h corner_margin r i ≡ inner h corner_margin r i + cond (option_eq eqb longer (Some i)) 1 0
  unfolding parts
  parts_are t best longer ht hb hl i = rw (← ht, ← hb, hl) (ap (λ (n : ℕ). inner h corner_margin r i + n) (added_to (eqb (t % 2) 1) i best))

-- ---- the loop

module _ (h corner_margin : Float) (at : ℕ) (ccw : Bool) (given r : Ring) (e : loop_ring h ccw given ≡ r) where
  pub seven : r.size < 3 → sample_loop h corner_margin at ccw given ≡ refused 7
  unfolding sample_loop first_true
  seven g = rw (e, lt-ltb r.size 3 g)

  not_seven : 3 ≤ r.size → sample_loop h corner_margin at ccw given ≡ placed_outcome h corner_margin at r
  unfolding sample_loop first_true
  not_seven g = rw (e, le-ltb r.size 3 g)

  pub of_loop : (entry exit : List Float) (made : Result ℕ Refusal) → 3 ≤ r.size → MadeIs h corner_margin r at entry exit (placed_outcome h corner_margin at r) made
      → MadeIs h corner_margin (loop_ring h ccw given) at entry exit (sample_loop h corner_margin at ccw given) made
  of_loop entry exit made g w = rw (not_seven g, e) w
