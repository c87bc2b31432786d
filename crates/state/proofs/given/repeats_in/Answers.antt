use mathlib.Core.Path.{refl}
use Rattle.state.proofs.Repeating.{none_marked, met_before, mark, all_marked}
use Rattle.state.proofs.given.repeats_in.Goals as goal

pub loop-node-init : goal.loop-node-init
loop-node-init g c = none_marked _ _ _ refl

pub returns-then-met-node : goal.returns-then-met-node
returns-then-met-node g c =
    let e = c.from-node.ensures in
    let h = c.loop-node-test.true in
    met_before _ c.args.nodes.now _ _ _ c.loop-node.invariant h e (rw e (c.requires _ h)) c.if-met-node.true

pub loop-node-preserved : goal.loop-node-preserved
loop-node-preserved g c =
    let e = c.from-node.ensures in
    let h = c.loop-node-test.true in
    mark _ c.args.nodes.now _ _ _ c.loop-node.invariant h e (rw e (c.requires _ h)) c.if-met-node.false

pub returns : goal.returns
returns g c = all_marked _ c.args.nodes.now _ c.loop-node.met c.loop-node.invariant c.loop-node-test.false
