use Rattle.float.proofs.Literals.{zero_is}
use Rattle.geometry.proofs.Loops.{holes_on, holes_over, loops_from, no_loops_from, room_behind, room_first}
use Rattle.geometry.proofs.outline.Outline.areas.Goals as goal

pub loop-n-init : goal.loop-n-init
loop-n-init c = (c.args.self.now.fits, rw zero_is)

pub invariant_of-ring : goal.invariant_of-ring
invariant_of-ring c =
    record { fits = room_first _ (loops_from c.args.self.now.loop_lengths.now c.loop-n.n-index _ c.loop-n-test.true c.from-n.ensures) c.loop-n.invariant.0 }

pub loop-n-preserved : goal.loop-n-preserved
loop-n-preserved c =
    let first = loops_from c.args.self.now.loop_lengths.now c.loop-n.n-index _ c.loop-n-test.true c.from-n.ensures in
    let room = c.loop-n.invariant.0 in
    let part = c.rest-ahead.ensures in
    (room_behind _ first room part, holes_on _ first room part _ _ _ _ c.loop-n.invariant.1 c.signed_area.ensures c.absolute-sum.ensures)

pub returns : goal.returns
returns c =
    holes_over _ (no_loops_from c.args.self.now.loop_lengths.now c.loop-n.n-index c.loop-n-test.false) _ _ c.loop-n.invariant.1
