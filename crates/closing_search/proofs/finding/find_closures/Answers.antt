use mathlib.Core.Path.{refl, ◌∙◌}
use native.Mathlib.Omega.{arith}
use Rattle.std.proofs.lemmas.List.{length-set}
use Rattle.geometry.specs.Domain.{sum_of}
use Rattle.state.specs.State.{cut}
use Rattle.state.proofs.Cutting.{part_is, length_cut, total_more, total_within}
use Rattle.closing_search.proofs.Gathering.{found_none, found_more}
use Rattle.closing_search.proofs.finding.find_closures.Goals as goal

pub loop-li-init : goal.loop-li-init
unfolding sum_of
loop-li-init c = record { found = found_none _ _ _ _; long = refl; place = refl }

pub ring-requires : goal.ring-requires
ring-requires c =
    let w = total_within c.args.fronts.now.lengths.now c.loop-li.li c.loop-li-test.true in
    rw (c.loop-li.invariant.place, c.from-size.ensures) w

pub overflow_add-start : goal.overflow_add-start
overflow_add-start c =
    let w = total_within c.args.fronts.now.lengths.now c.loop-li.li c.loop-li-test.true in
    omega (arith, c.well_formed)

pub loop-li-preserved : goal.loop-li-preserved
loop-li-preserved c =
    let fronts = c.args.fronts.now in
    let l = fronts.lengths.now in
    let xs = fronts.nodes.now in
    let h = c.loop-li-test.true in
    let inv = c.loop-li.invariant in
    let f = part_is l xs _ h fronts.fits _ _ _ inv.place c.from-size.ensures c.ring.ensures.nodes in
    record {
      found = found_more c.args.limit fronts.points.now (cut l xs) inv.found (rw (length_cut l xs) h) (omega (arith, fronts.few)) _ _ f (rw c.ring.ensures.points at c.close_front.ensures);
      long = length-set _ _ _ ∙ inv.long;
      place = rw (inv.place, c.from-size.ensures, total_more l _ h);
    }
