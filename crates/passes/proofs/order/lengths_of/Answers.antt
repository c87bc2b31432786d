use mathlib.Core.Path.{refl, sym, ◌∙◌, ap}
use Prim.Native.Nat.{◌+◌}
use native.Mathlib.Nat.{not-suc-le-zero}
use native.Mathlib.Omega.{arith}
use lib.ListN.{length-set, get_or}
use Rattle.geometry.specs.Domain.{sum_of}
use Rattle.geometry.specs.Rings.{node_ring}
use Rattle.geometry.specs.Measures.{front_length}
use Rattle.state.proofs.Cutting.{total_more, total_within, part_is}
use Rattle.passes.specs.Order.{length_of}
use Rattle.passes.proofs.Inserting.{lengths_more}
use Rattle.passes.proofs.order.lengths_of.Goals as goal

pub loop-i-init : goal.loop-i-init
unfolding sum_of
loop-i-init c = (refl, refl, λ k h. absurd (not-suc-le-zero h))

pub ring-requires : goal.ring-requires
ring-requires c =
    let w = total_within c.args.fronts.now.lengths.now c.loop-i.i (omega arith) in
    let h = c.loop-i.invariant.0 in
    let e = c.from-len.ensures in omega arith

pub overflow_add-start : goal.overflow_add-start
overflow_add-start c =
    let w = total_within c.args.fronts.now.lengths.now c.loop-i.i (omega arith) in
    let h = c.loop-i.invariant.0 in
    let e = c.from-len.ensures in omega arith

pub loop-i-preserved : goal.loop-i-preserved
loop-i-preserved c =
    let f = c.args.fronts.now in
    let l = f.lengths.now in
    let i = c.loop-i.i in
    let part = part_is l f.nodes.now i (omega arith) f.fits _ _ _ c.loop-i.invariant.0 c.from-len.ensures c.ring.ensures.nodes in
    let long = rw c.ring.ensures.points at c.front_length.ensures in (
      ap (λ t. c.loop-i.start + t) c.from-len.ensures ∙ ap (λ t. t + get_or l i 0) c.loop-i.invariant.0 ∙ sym (total_more l i (omega arith)),
      length-set c.loop-i.lengths i c.front_length.result ∙ c.loop-i.invariant.1,
      lengths_more (length_of f.points.now f.nodes.now l) c.loop-i.lengths i _ (omega arith) (long ∙ ap (λ x. front_length (node_ring f.points.now x)) part) c.loop-i.invariant.2,
    )
