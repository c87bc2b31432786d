use mathlib.Core.Path.{refl, ◌∙◌}
use Prim.Native.Nat.{◌+◌, ◌-◌}
use native.Mathlib.Omega.{arith}
use Rattle.state.specs.State.{numbered}
use Rattle.text.proofs.Midst.{begin, more, room, ended, same_rest}
use Rattle.shapes.specs.Shapes.{dot_text, dots_text}
use Rattle.shapes.proofs.Turns.{dots_begin, dots_next, dots_end}
use Rattle.shapes.proofs.fronts.put_dots.Goals as goal

pub loop-i-init : goal.loop-i-init
loop-i-init c = (same_rest (dots_begin c.args.nodes.now.pts.now c.args.nodes.now.n) (begin _ _ _), refl)

pub put_dot-requires : goal.put_dot-requires
put_dot-requires c =
    room (dot_text c.at.result) (dots_text c.args.nodes.now.pts.now (numbered (c.loop-i.i + 1) (c.args.nodes.now.n - (c.loop-i.i + 1))))
    (same_rest (dots_next c.args.nodes.now.pts.now c.args.nodes.now.n c.loop-i.i c.at.result (omega arith) c.at.ensures) c.loop-i.invariant.0) c.requires

pub loop-i-preserved : goal.loop-i-preserved
loop-i-preserved c =
    (more (same_rest (dots_next c.args.nodes.now.pts.now c.args.nodes.now.n c.loop-i.i c.at.result (omega arith) c.at.ensures) c.loop-i.invariant.0) c.put_dot.ensures.put, c.put_dot.ensures.same ∙ c.loop-i.invariant.1)

pub returns-clause-put : goal.returns-clause-put
returns-clause-put c =
    ended (same_rest (dots_end c.args.nodes.now.pts.now c.args.nodes.now.n c.loop-i.i (omega arith)) c.loop-i.invariant.0)

pub returns-clause-same : goal.returns-clause-same
returns-clause-same c = c.loop-i.invariant.1
