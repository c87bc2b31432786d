use mathlib.Core.Path.{◌≡◌, refl, ◌∙◌, sym}
use Prim.Native.Nat.{◌+◌, ◌-◌}
use native.Mathlib.Nat.{zero-add}
use native.Mathlib.Omega.{arith}
use lib.ListN.{length, take, drop}
use lib.Seq.{length-take-le}
use Rattle.std.proofs.Common.{length-drop}
use Rattle.state.specs.State.{numbered}
use Rattle.state.proofs.Growing.{number_more, length-numbered}
use Rattle.state.proofs.Stores.{part_put, sets_all}
use Rattle.state.proofs.appending.put_numbers.Goals as goal

pub loop-i-init : goal.loop-i-init
unfolding numbered
loop-i-init c = refl

pub loop-i-preserved : goal.loop-i-preserved
loop-i-preserved c = rw (zero-add c.loop-i.i) at (number_more _ c.loop-i.node-items 0 c.args.first c.loop-i.i _ c.loop-i.invariant c.narrow.ensures)

pub returns : goal.returns
returns c =
    let a = c.args in
    let part = take (a.start + a.n - a.start) (drop a.start a.nodes.now) in
    let long : length part ≡ a.n = length-take-le (a.start + a.n - a.start) (drop a.start a.nodes.now) (simp length-drop (omega arith)) ∙ omega arith in
    let all : c.loop-i.i ≡ a.n = omega arith in
    let written : c.loop-i.node-items ≡ numbered a.first a.n = c.loop-i.invariant ∙ rw all (sets_all part (numbered a.first a.n) (long ∙ sym (length-numbered a.first a.n))) in
    part_put a.nodes.now c.loop-i.node-items (numbered a.first a.n) a.start (a.start + a.n) (rw length-numbered c.requires.0) (rw length-numbered) written
