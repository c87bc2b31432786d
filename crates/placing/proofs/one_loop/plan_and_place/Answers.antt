-- `placing::one_loop::plan_and_place` meets its contract: its test is the definition's, and what is placed is what the definition places.
use mathlib.Core.Path.{◌≡◌, ap, sym, ◌∙◌}
use mathlib.Core.List.{List}
use Prim.Native.Nat.{ℕ, ◌+◌, ◌*◌, ◌%◌, ◌≤◌}
use native.Mathlib.Omega.{arith}
use lib.Ieee.{Float}
use Rattle.geometry.specs.Rings.{Ring}
use Rattle.state.specs.Limits.{front_node_limit}
use Rattle.planning.specs.Plan as plans
use Rattle.planning.specs.Backwards.{read_ring}
use Rattle.placing.specs.Placed as laid
use Rattle.placing.proofs.Placing.{placed_planned}
use Rattle.placing.proofs.Numbers.{ten, no_number, over, within_is, parts_are}
use Rattle.placing.proofs.one_loop.plan_and_place.Goals as goal

pub returns-then-at-planned-gt2048 : goal.returns-then-at-planned-gt2048
returns-then-at-planned-gt2048 c =
    let turned_ring : Ring = read_ring c.args.ring in
    let planned-at : ℕ = plans.planned c.args.spacing.h c.args.spacing.corner_margin turned_ring in
    let sum-at : ℕ = c.args.at + planned-at in
    let out_at : List Float = laid.placed c.args.spacing.h c.args.spacing.corner_margin turned_ring c.args.ring.n in
    ten sum-at out_at (over c.args.spacing.h c.args.spacing.corner_margin turned_ring _ _ c.plan_sides-p.ensures.0 c.if-at-planned-gt2048.true)

pub place-requires : goal.place-requires
place-requires c =
    let turned_ring : Ring = read_ring c.args.ring in
    let planned-at : ℕ = plans.planned c.args.spacing.h c.args.spacing.corner_margin turned_ring in
    let sum-at : ℕ = c.args.at + planned-at in
    let planned-found : (let t = c.plan_sides-p.result.total in
    (t ≡ plans.total c.args.spacing.h c.args.spacing.corner_margin turned_ring) × (t + t % 2 ≡ planned-at)) = (within_is c.args.spacing.h c.args.spacing.corner_margin turned_ring c.args.at _ c.plan_sides-p.ensures.0 c.if-at-planned-gt2048.false) in
    let few-planned : sum-at ≤ front_node_limit = omega (arith, planned-found.1, c.if-at-planned-gt2048.false) in
    let plan-sides = c.plan_sides-p in
    let w = planned-found in record {
      n_bound = (omega (arith, c.requires.n_bound.2, plan-sides.auto.lengths), omega (arith, c.requires.n_bound.3, plan-sides.auto.spans));
      by_index = plan-sides.ensures.2;
      by_index_2 = plan-sides.ensures.3;
      by_index_3 = λ i g. parts_are c.args.spacing.h c.args.spacing.corner_margin turned_ring _ _ _ w.0 plan-sides.ensures.1 c.then_some-longer.ensures i;
      n_bound_2 = (few-planned, omega (arith, c.requires.at_bound.1));
    }

pub returns : goal.returns
returns c =
    let turned_ring : Ring = read_ring c.args.ring in
    let planned-at : ℕ = plans.planned c.args.spacing.h c.args.spacing.corner_margin turned_ring in
    let sum-at : ℕ = c.args.at + planned-at in
    let out_at : List Float = laid.placed c.args.spacing.h c.args.spacing.corner_margin turned_ring c.args.ring.n in
    let planned-found : (let t = c.plan_sides-p.result.total in
    (t ≡ plans.total c.args.spacing.h c.args.spacing.corner_margin turned_ring) × (t + t % 2 ≡ planned-at)) = (within_is c.args.spacing.h c.args.spacing.corner_margin turned_ring c.args.at _ c.plan_sides-p.ensures.0 c.if-at-planned-gt2048.false) in
    let few-planned : sum-at ≤ front_node_limit = omega (arith, planned-found.1, c.if-at-planned-gt2048.false) in
    let w = planned-found in (
      no_number sum-at out_at few-planned,
      record {
        planned_is = w.1;
        placed_is = ap (λ (k : ℕ). k * 2) w.1 ∙ sym (placed_planned c.args.spacing.h c.args.spacing.corner_margin turned_ring c.requires.n_bound.0);
        within = c.if-at-planned-gt2048.false;
        points = c.place.ensures;
      },
    )
