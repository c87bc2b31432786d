use Rattle.geometry.proofs.Loops.{loops_from, no_loops_from, room_behind, room_first, some_here, some_later, some_over}
use Rattle.geometry.proofs.outline.Outline.some_holds.Goals as goal

pub returns-then-in_polygon : goal.returns-then-in_polygon
returns-then-in_polygon c =
    let first = loops_from c.args.self.now.loop_lengths.now c.loop-n.n-index _ c.loop-n-test.true c.from-n.ensures in
    some_here _ first c.loop-n.invariant.0 _ _ _ c.loop-n.invariant.1 c.in_polygon.ensures c.if-in_polygon.true

pub invariant_of-ring : goal.invariant_of-ring
invariant_of-ring c =
    record { fits = room_first _ (loops_from c.args.self.now.loop_lengths.now c.loop-n.n-index _ c.loop-n-test.true c.from-n.ensures) c.loop-n.invariant.0 }

pub loop-n-preserved : goal.loop-n-preserved
loop-n-preserved c =
    let first = loops_from c.args.self.now.loop_lengths.now c.loop-n.n-index _ c.loop-n-test.true c.from-n.ensures in
    let room = c.loop-n.invariant.0 in
    let part = c.rest-ahead.ensures in
    (room_behind _ first room part, some_later _ first room part _ _ _ c.loop-n.invariant.1 c.in_polygon.ensures c.if-in_polygon.false)

pub returns : goal.returns
returns c =
    some_over _ (no_loops_from c.args.self.now.loop_lengths.now c.loop-n.n-index c.loop-n-test.false) _ _ c.loop-n.invariant.1
