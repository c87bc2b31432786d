use mathlib.Core.Path.{◌≡◌}
use Prim.Native.Nat.{ℕ, ◌<◌}
use native.Mathlib.Nat.{not-suc-le-zero}
use native.Mathlib.Omega.{arith}
use lib.Ieee.{nan}
use lib.ListN.{length}
use Rattle.planning.specs.Plan as plans
use Rattle.planning.specs.Backwards.{read_ring}
use Rattle.planning.specs.Side.{along, square}
use Rattle.state.proofs.Stores.{table_step}
use Rattle.planning.proofs.Measuring.{here, first_side, margin_is, square_is, sharp_is, next_side}
use Rattle.planning.proofs.sides.square_sides.Goals as goal

pub loop-i-init : goal.loop-i-init
loop-i-init c = (
  rw (here c.args.ring.n 0 c.requires.0) c.at-b.ensures,
  first_side (read_ring c.args.ring) _ _ _ c.requires.0 c.at-b.ensures c.at.ensures c.toward-d.ensures,
  λ k q. absurd (not-suc-le-zero q),
  λ k q. absurd (not-suc-le-zero q),
)

pub loop-i-preserved : goal.loop-i-preserved
loop-i-preserved c =
    let l = c.loop-i in
    let more = c.loop-i-test.true in
    let next_of = c.next_of in
    let h = c.args.spacing.h in
    let m = c.args.spacing.corner_margin in
    let r = read_ring c.args.ring in
    let e = c.toward-e in
    let side = square_is r l.i _ _ _ l.d _ more next_of.ensures.value l.invariant.0 l.invariant.1 c.at-c.ensures e.ensures in
    let sharp = sharp_is r l.i _ _ _ l.d _ more next_of.ensures.value l.invariant.0 l.invariant.1 c.at-c.ensures e.ensures _ c.sharp_between.ensures in
    let room : l.i < length l.squares = omega arith in
    let room2 : l.i < length l.margins = omega arith in (
      rw next_of.ensures.value at c.at-c.ensures,
      next_side r l.i _ _ _ l.d _ more next_of.ensures.value l.invariant.0 l.invariant.1 c.at-c.ensures e.ensures,
      table_step l.squares nan (λ (k : ℕ). square (along r k)) l.i _ room l.invariant.2 side,
      table_step l.margins nan (plans.margin h m r) l.i _ room2 l.invariant.3 (margin_is h m r l.i _ _ sharp c.taken.ensures),
    )

pub returns : goal.returns
returns c =
    let l = c.loop-i in
    let e : l.i ≡ c.args.ring.n = omega arith in
    (rw e at l.invariant.2, rw e at l.invariant.3)
