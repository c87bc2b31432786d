use Rattle.std.proofs.Common.{◌∙◌}
use mathlib.Core.List.{◌∷◌}
use Prim.Native.Nat.{◌+◌}
use lib.ListN.{drop}
use Rattle.text.specs.Decimal.{decimal_text}
use Rattle.text.proofs.Midst.{more, room, ended, same_rest}
use Rattle.answer_text.specs.AnswerText.{tab, numbers_text}
use Rattle.answer_text.proofs.LineLaws.{numbers-next, numbers_end}
use Rattle.answer_text.proofs.lines.put_nodes.Goals as goal

pub put_number-requires : goal.put_number-requires
put_number-requires c =
    let nodes = c.args.nodes.now in
    let i = c.loop-node.node-index in
    room (tab ∷ decimal_text c.from.result) (numbers_text (drop (i + 1) nodes)) (same_rest (numbers-next nodes i c.from.result c.loop-node-test.true c.from.ensures) c.loop-node.invariant.0) c.requires

pub loop-node-preserved : goal.loop-node-preserved
loop-node-preserved c =
    let nodes = c.args.nodes.now in
    let i = c.loop-node.node-index in
    (more (same_rest (numbers-next nodes i c.from.result c.loop-node-test.true c.from.ensures) c.loop-node.invariant.0) c.put_number.ensures.put, c.put_number.ensures.same ∙ c.loop-node.invariant.1)

pub returns-clause-put : goal.returns-clause-put
returns-clause-put c = ended (same_rest (numbers_end c.args.nodes.now c.loop-node.node-index c.loop-node-test.false) c.loop-node.invariant.0)

pub returns-clause-same : goal.returns-clause-same
returns-clause-same c = c.loop-node.invariant.1
