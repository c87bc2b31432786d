use Rattle.std.proofs.Common.{◌∙◌, refl, sym}
use Rattle.shapes.proofs.Literals.{infinity_is}
use Rattle.shapes.proofs.Turns.{all_chunked, worst-next, worst_end}
use Rattle.shapes.proofs.least.worst.Goals as goal

pub loop-nodes-init : goal.loop-nodes-init
loop-nodes-init c = rw (c.as_chunks.ensures.front, all_chunked, infinity_is)

pub loop-nodes-preserved : goal.loop-nodes-preserved
loop-nodes-preserved c = sym (worst-next c.as_chunks.result.0.now c.loop-nodes.nodes-index c.args.points.now _ c.loop-nodes.least _ c.lesser-least.result c.loop-nodes-test.true refl c.worst_of.ensures c.lesser-least.ensures) ∙ c.loop-nodes.invariant

pub returns : goal.returns
returns c = sym (worst_end c.as_chunks.result.0.now c.loop-nodes.nodes-index c.args.points.now c.loop-nodes.least c.loop-nodes-test.false) ∙ c.loop-nodes.invariant
