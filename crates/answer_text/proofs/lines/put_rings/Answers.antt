use Rattle.std.proofs.Common.{◌∙◌}
use mathlib.Core.List.{[], ◌∷◌}
use Prim.Native.Nat.{◌+◌, ◌-◌}
use native.Mathlib.Omega.{arith}
use lib.ListN.{take, drop}
use Rattle.state.specs.State.{cut}
use Rattle.text.proofs.Midst.{more, room, ended, same_rest}
use Rattle.answer_text.specs.AnswerText.{line_text, lines_text}
use Rattle.answer_text.proofs.LineLaws.{fronts_next, fronts_end, nodes-next}
use Rattle.answer_text.proofs.lines.put_rings.Goals as goal

pub slice_bounds-put_line-end : goal.slice_bounds-put_line-end
slice_bounds-put_line-end c =
    let left = nodes-next c.args.lengths.now c.loop-count.count-index c.from.result c.loop-count-test.true c.from.ensures in
    omega arith

pub put_line-requires : goal.put_line-requires
put_line-requires c =
    let nodes = c.args.nodes.now in
    let lengths = c.args.lengths.now in
    let i = c.loop-count.count-index in
    let start = c.loop-count.start in
    let n = c.from.result in
    room (line_text (c.args.letter ∷ []) (take (start + n - start) (drop start nodes))) (lines_text (c.args.letter ∷ []) (cut (drop (i + 1) lengths) (drop (start + n) nodes)))
    (same_rest (fronts_next (c.args.letter ∷ []) lengths nodes i start n (start + n - start) c.loop-count-test.true c.from.ensures (omega arith)) c.loop-count.invariant.1) c.requires.room

pub loop-count-preserved : goal.loop-count-preserved
loop-count-preserved c =
    let nodes = c.args.nodes.now in
    let lengths = c.args.lengths.now in
    let i = c.loop-count.count-index in
    let start = c.loop-count.start in
    let n = c.from.result in
    let left = nodes-next lengths i n c.loop-count-test.true c.from.ensures in
    (omega arith, more (same_rest (fronts_next (c.args.letter ∷ []) lengths nodes i start n (start + n - start) c.loop-count-test.true c.from.ensures (omega arith)) c.loop-count.invariant.1) c.put_line.ensures.put, c.put_line.ensures.same ∙ c.loop-count.invariant.2)

pub returns-clause-put : goal.returns-clause-put
returns-clause-put c =
    ended (same_rest (fronts_end (c.args.letter ∷ []) c.args.lengths.now c.args.nodes.now c.loop-count.count-index c.loop-count.start c.loop-count-test.false) c.loop-count.invariant.1)
