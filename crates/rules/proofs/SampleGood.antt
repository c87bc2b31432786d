-- What sampling makes meets the invariant: each loop is a front of its own nodes, and nothing is laid.
use mathlib.Core.Path.{◌≡◌, refl, ap, sym, ◌∙◌, subst}
use mathlib.Core.Bool.{Bool, true, false}
use mathlib.Core.List.{List, [], ◌∷◌, ◌++◌, map, map-append}
use mathlib.Core.Logic.{inl, inr}
use Prim.Native.Nat.{ℕ, suc, ◌+◌, ◌*◌, ◌/◌, ◌%◌, ◌≤◌}
use native.Mathlib.Nat.{zero-add}
use native.Mathlib.Omega.{arith}
use lib.Dec.{ltb}
use lib.ListN.{length, drop, length-append}
use lib.Ieee.{Float}
use borrow.Author.Tests.{ltb-false, le-ltb}
use Rattle.geometry.specs.Rings.{Ring}
use Rattle.geometry.specs.Domain.{rings}
use Rattle.state.specs.Limits.{front_limit, front_node_limit}
use Rattle.state.specs.State.{State, nodes, numbered, joined}
use Rattle.state.specs.Given.{some}
use Rattle.input.specs.Job.{Job, loop_limit}
use Rattle.state.specs.Outcome.{Outcome, refused, gives}
use Rattle.planning.specs.Ring.{loop_ring}
use Rattle.planning.specs.Plan.{planned}
use Rattle.placing.specs.Placed.{placed}
use Rattle.placing.specs.Loop.{sample_loop}
use Rattle.sampling.specs.Sample.{empty, with_loop, sample_from, sampled}
use Rattle.pairs.specs.Pairs.{sides, sides_of_all}
use Rattle.rules.proofs.Lists.{below_or_from, twice}
use Rattle.state.proofs.Outcomes.{gives_same, not_both, first_none, numbered_gives}
use Rattle.pairs.proofs.Occurs.{occurs, occurs_in_all, occurs_append_all, numbered-before, numbered_beyond, numbered_once}
use Rattle.state.proofs.Growing.{length-numbered, joined-append}
use Rattle.state.proofs.Repeating.{some_both}
use Rattle.placing.proofs.Placing.{placed_planned, planned_four}
use Rattle.pairs.proofs.Sides.{sides_none_left, sides_once, sides-append_all, sides_none_left_all, sides_none_right_all}
use Rattle.rules.proofs.Invariant.{Good}
use Rattle.rules.proofs.Allowed.{too_short, Allowed, Stands}

-- ---- one loop

-- what a loop that is not refused has: the nodes planned, four or more of them, within the limit
pub record Loop (before planned : ℕ) (out : List Float) : Type 0 where
  pub whole : length out ≡ planned * 2
  pub four : 4 ≤ planned
  pub within : before + planned ≤ front_node_limit

loop_gives : (h margin : Float) (before : ℕ) (ccw : Bool) (given : Ring) (out : List Float) → sample_loop h margin before ccw given ≡ gives out → Loop before (planned h margin (loop_ring h ccw given)) out
unfolding sample_loop
loop_gives h margin before ccw given out e =
    let r = loop_ring h ccw given in
    let all = numbered_gives _ (placed h margin r r.size) out e in
    let seven = first_none 6 _ _ all.0 in
    let ten = first_none 9 _ _ seven.1 in
    let three : 3 ≤ r.size = ltb-false r.size 3 seven.0 in
    rw (← all.1) (record {
      whole = placed_planned h margin r (omega arith);
      four = planned_four h margin r three;
      within = ltb-false front_node_limit (before + planned h margin r) ten.0;
    })

-- ---- loop after loop

pub record Fresh (s : State) : Type 0 where
  pub none : s.quads ≡ []
  pub none_laid : s.laid ≡ 0
  pub no_row_quads : s.row_quads ≡ 0
  pub no_core_quads : s.core_quads ≡ 0
  pub no_rounds : s.row_rounds ≡ 0
  pub few : nodes s ≤ front_node_limit
  pub front_nodes : length (joined s.fronts) ≡ nodes s
  pub three : too_short s.fronts ≡ false
  pub even : length s.points % 2 ≡ 0
  pub once : (a : ℕ) → occurs_in_all a s.fronts ≤ 1
  pub low : (a : ℕ) → nodes s ≤ a → occurs_in_all a s.fronts ≡ 0
  pub small : (a b : ℕ) → sides_of_all a b s.fronts ≤ 1

empty_fresh : Fresh empty
unfolding occurs_in_all sides_of_all joined some
empty_fresh = record {
  none = refl;
  none_laid = refl;
  no_row_quads = refl;
  no_core_quads = refl;
  no_rounds = refl;
  few = omega arith;
  front_nodes = refl;
  three = refl;
  even = refl;
  once = λ a. omega arith;
  low = λ a h. refl;
  small = λ a b. omega arith;
}

module _ (s : State) (before more : ℕ) (out : List Float) (fresh : Fresh s) (fewer : nodes s ≤ before) (loop : Loop before more out) where
  abbrev n : ℕ
  n = length out / 2

  abbrev new : List ℕ
  new = numbered (nodes s) n

  nodes-after : length (s.points ++ out) / 2 ≡ nodes s + n
  nodes-after = omega (arith, length-append s.points out, fresh.even, loop.whole)

  joined-after : length (joined (s.fronts ++ (new ∷ []))) ≡ nodes s + n
  unfolding joined
  joined-after = rw (joined-append s.fronts (new ∷ [])) (omega (arith, length-append (joined s.fronts) (new ++ []), length-append new [], length-numbered (nodes s) n, fresh.front_nodes))

  short_after : too_short (s.fronts ++ (new ∷ [])) ≡ false
  unfolding some
  short_after =
      rw (map-append length s.fronts (new ∷ []), some_both (λ x. ltb x 3) (map length s.fronts) (length new ∷ []), fresh.three, length-numbered (nodes s) n, le-ltb n 3 (omega (arith, loop.whole, loop.four)))

  occurs_after : (a : ℕ) → occurs_in_all a (s.fronts ++ (new ∷ [])) ≡ occurs_in_all a s.fronts + occurs a new
  unfolding occurs_in_all
  occurs_after a = omega (arith, occurs_append_all a s.fronts (new ∷ []))

  sides-after : (a b : ℕ) → sides_of_all a b (s.fronts ++ (new ∷ [])) ≡ sides_of_all a b s.fronts + sides a b new
  unfolding sides_of_all
  sides-after a b = omega (arith, sides-append_all a b s.fronts (new ∷ []))

  loop_fresh : Fresh (with_loop s out)
  unfolding with_loop
  loop_fresh = record {
    none = fresh.none;
    none_laid = fresh.none_laid;
    no_row_quads = fresh.no_row_quads;
    no_core_quads = fresh.no_core_quads;
    no_rounds = fresh.no_rounds;
    few = omega (arith, nodes-after, loop.whole, loop.within);
    front_nodes = joined-after ∙ sym nodes-after;
    three = short_after;
    even = omega (arith, length-append s.points out, fresh.even, loop.whole);
    once = λ a. elim (below_or_from a (nodes s)) [
      | inl x ↦ omega (arith, occurs_after a, fresh.once a, numbered-before a (nodes s) n x)
      | inr x ↦ omega (arith, occurs_after a, fresh.low a x, numbered_once a (nodes s) n)
    ];
    low = λ a h. omega (arith, occurs_after a, nodes-after, fresh.low a (omega (arith, nodes-after)), numbered_beyond a (nodes s) n (omega (arith, nodes-after)));
    small = λ a b. elim (below_or_from a (nodes s)) [
      | inl x ↦ omega (arith, sides-after a b, fresh.small a b, sides_none_left a b new (numbered-before a (nodes s) n x))
      | inr x ↦ omega (arith, sides-after a b, sides_none_left_all a b s.fronts (fresh.low a x), sides_once a b new (λ c. numbered_once c (nodes s) n) (omega (arith, length-numbered (nodes s) n, loop.whole, loop.four)))
    ];
  }

-- each loop is one front more
pub record Began (n : ℕ) (t : State) : Type 0 where
  pub fresh : Fresh t
  pub fronts : length t.fronts ≡ n

from_began : (h margin : Float) (before : ℕ) (ccw : Bool) (s : State) (rs : List Ring) (t : State) → sample_from h margin before ccw s rs ≡ gives t → nodes s ≤ before → Fresh s
    → Began (length s.fronts + length rs) t
unfolding sample_from
from_began h margin before ccw s [] t e fewer fresh = subst (λ x. Began (length s.fronts + 0) x) (gives_same e) (record { fresh = fresh; fronts = omega arith })
from_began h margin before ccw s (r ∷ rs) t e fewer fresh =
    go (sample_loop h margin before ccw r) refl (λ out d g f. from_began h margin (before + planned h margin (loop_ring h ccw r)) false (with_loop s out) rs t d g f)
  where
    go : (x : Outcome (List Float)) → sample_loop h margin before ccw r ≡ x
        → ((out : List Float) → sample_from h margin (before + planned h margin (loop_ring h ccw r)) false (with_loop s out) rs ≡ gives t
        → nodes (with_loop s out) ≤ before + planned h margin (loop_ring h ccw r) → Fresh (with_loop s out) → Began (length (with_loop s out).fronts + length rs) t)
        → Began (length s.fronts + suc (length rs)) t
    go (refused k) d rest = absurd (not_both (rw (d, sample_from) at e))
    go (gives out) d rest =
        let w = loop_gives h margin before ccw r out d in
        let p = planned h margin (loop_ring h ccw r) in
        let more : nodes (with_loop s out) ≡ nodes s + length out / 2 = unfold with_loop in nodes-after s before p out fresh fewer w in
        let got = rest out (rw (d, sample_from) at e) (omega (arith, more, w.whole)) (loop_fresh s before p out fresh fewer w) in
        let one : length (with_loop s out).fronts ≡ length s.fronts + 1 = unfold with_loop in length-append s.fronts _ in
        record { fresh = got.fresh; fronts = omega (arith, got.fronts, one) }

pub length-rings : (coords : List Float) (loops : List ℕ) → length (rings coords loops) ≡ length loops
unfolding rings
length-rings coords [] = refl
length-rings coords (n ∷ loops) = ap suc (length-rings (drop (n * 2) coords) loops)

pub sampled_began : (j : Job) (s : State) → sampled j ≡ gives s → Began (length j.loops) s
unfolding sampled
sampled_began j s e =
    rw length-rings at (rw zero-add at (from_began j.h j.options.corner_margin 0 true empty (rings j.coords j.loops) s e (omega arith) empty_fresh))

-- ---- the invariant, with the fronts as the sampled loops

fresh_good : (s : State) → Fresh s → Good s.fronts s.points s.quads s.fronts
unfolding sides_of_all
fresh_good s fresh = rw fresh.none (record {
  even = fresh.even;
  once = fresh.once;
  low = fresh.low;
  count = λ a b. twice _ (sides_of_all a b s.fronts) (fresh.small a b) (omega arith);
  own = λ a b x y. omega arith;
  fresh_left = λ a b x. omega (arith, sides_none_left_all a b s.fronts (fresh.low a x));
  fresh_right = λ a b x. omega (arith, sides_none_right_all a b s.fronts (fresh.low b x));
  quads_low = λ i l. absurd (omega arith);
})

-- and what number 25 asks of counts and fronts, where there are no more loops than fronts may be
began_allowed : (n : ℕ) (s : State) → n ≤ front_limit → Began n s → Allowed s
began_allowed n s few b =
    let f = b.fresh in
    let none : length s.quads ≡ 0 = ap length f.none in
    record {
      points = omega (arith, f.few);
      quads = omega arith;
      fronts = omega (arith, b.fronts);
      front_nodes = omega (arith, f.few, f.front_nodes);
      three = f.three;
      sums = omega (arith, f.no_row_quads, f.no_core_quads);
      laid = omega (arith, f.none_laid);
      rounds = omega (arith, f.no_rounds);
    }

pub sampled_stands : (j : Job) (s : State) → sampled j ≡ gives s → length j.loops ≤ loop_limit → Stands s.fronts s
sampled_stands j s e few = let b = sampled_began j s e in record { good = fresh_good s b.fresh; allowed = began_allowed (length j.loops) s few b }
