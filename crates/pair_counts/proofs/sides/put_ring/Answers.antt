use mathlib.Core.Path.{◌≡◌, ap, ◌∙◌}
use native.Mathlib.Omega.{arith}
use lib.ListN.{length, get_or}
use Rattle.pair_counts.specs.Sides.{lower, higher}
use Rattle.pair_counts.proofs.Filling.{ring-start, ring_step, ring_end}
use Rattle.pair_counts.proofs.sides.put_ring.Goals as goal

pub loop-i-init : goal.loop-i-init
loop-i-init c =
    let ring = c.args.ring.now in
    let at = c.args.at in
    (ring-start lower c.args.lows.now ring at, ring-start higher c.args.highs.now ring at)

pub loop-i-preserved : goal.loop-i-preserved
loop-i-preserved c =
    let l = c.loop-i in
    let ring = c.args.ring.now in
    let at = c.args.at in
    let low = c.lower.ensures ∙ ap (λ k. lower (get_or ring l.i 0) (get_or ring k 0)) c.next_of.ensures.value in
    let high = c.higher.ensures ∙ ap (λ k. higher (get_or ring l.i 0) (get_or ring k 0)) c.next_of.ensures.value in (
      ring_step lower l.lows c.args.lows.now ring at l.i _ l.invariant.0 (omega arith) low,
      ring_step higher l.highs c.args.highs.now ring at l.i _ l.invariant.1 (omega arith) high,
    )

pub returns : goal.returns
returns c =
    let l = c.loop-i in
    let ring = c.args.ring.now in
    let at = c.args.at in
    let e : l.i ≡ length ring = omega arith in record {
      lows_after = ring_end lower l.lows c.args.lows.now ring at l.i e l.invariant.0;
      highs_after = ring_end higher l.highs c.args.highs.now ring at l.i e l.invariant.1;
    }
