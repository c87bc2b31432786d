use mathlib.Core.Path.{refl, ◌∙◌}
use Prim.Native.Nat.{◌+◌}
use native.Mathlib.Omega.{arith}
use lib.ListN.{drop}
use Rattle.state.specs.State.{cut}
use Rattle.text.proofs.Midst.{begin, more, room, ended, same_rest}
use Rattle.shapes.specs.Shapes.{ring_text, path_text, fronts_text}
use Rattle.shapes.proofs.Turns.{fronts_next, fronts_end, sum-next}
use Rattle.shapes.proofs.fronts.put_fronts.Goals as goal

pub loop-n-init : goal.loop-n-init
loop-n-init c = (omega arith, begin _ _ _, refl)

pub split_at-requires : goal.split_at-requires
split_at-requires c =
    let left = sum-next c.args.lengths.now c.loop-n.n-index c.from.result (omega arith) c.from.ensures in
    omega arith

pub put_shape-requires : goal.put_shape-requires
put_shape-requires c =
    room (path_text 102 (ring_text c.args.points.now c.split_at.result.0.now)) (fronts_text c.args.points.now (cut (drop (c.loop-n.n-index + 1) c.args.lengths.now) c.split_at.result.1.now))
    (same_rest (rw (c.split_at.ensures.front, c.split_at.ensures.back) (fronts_next c.args.points.now c.args.lengths.now c.loop-n.left.now c.loop-n.n-index c.from.result (omega arith) c.from.ensures)) c.loop-n.invariant.1) c.requires.room

pub loop-n-preserved : goal.loop-n-preserved
loop-n-preserved c =
    let left = sum-next c.args.lengths.now c.loop-n.n-index c.from.result (omega arith) c.from.ensures in (
      omega (arith, c.split_at.ensures.back_len),
      more (same_rest (rw (c.split_at.ensures.front, c.split_at.ensures.back) (fronts_next c.args.points.now c.args.lengths.now c.loop-n.left.now c.loop-n.n-index c.from.result (omega arith) c.from.ensures)) c.loop-n.invariant.1) c.put_shape.ensures.put,
      c.put_shape.ensures.same ∙ c.loop-n.invariant.2,
    )

pub returns-clause-put : goal.returns-clause-put
returns-clause-put c =
    ended (same_rest (fronts_end c.args.points.now c.args.lengths.now c.loop-n.left.now c.loop-n.n-index (omega arith)) c.loop-n.invariant.1)

pub returns-clause-same : goal.returns-clause-same
returns-clause-same c = c.loop-n.invariant.2
