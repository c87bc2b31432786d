use mathlib.Core.Path.{◌≡◌, ◌∙◌}
use Prim.Native.Nat.{◌<◌}
use native.Mathlib.Omega.{arith}
use lib.ListN.{length}
use Rattle.state.specs.Limits.{point_limit}
use Rattle.pair_counts.proofs.Tallies.{zeros_long}
use Rattle.pair_counts.proofs.Linking.{none_linked, link_step}
use Rattle.pair_counts.proofs.chains.link.Goals as goal

pub loop-i-init : goal.loop-i-init
loop-i-init c = none_linked c.args.lows.now c.args.behind.now c.args.first.now c.requires.first_value

pub loop-i-preserved : goal.loop-i-preserved
loop-i-preserved c =
    let l = c.loop-i in
    let long : length l.first ≡ point_limit = l.auto.first ∙ zeros_long point_limit c.args.first.now c.requires.first_value in
    let small : c.from-node.result < point_limit = rw c.from-node.ensures (c.requires.by_index l.i c.loop-i-test.true) in
    rw c.narrow.ensures (link_step c.args.lows.now l.behind l.first l.i c.from-node.result l.invariant c.from-node.ensures small long (omega arith))
