-- `answer_text::lines::put_line` meets its contract. The letter, the numbers, the LF.
use mathlib.Core.List.{[], ◌∷◌}
use Rattle.text.proofs.Midst.{begin, more, room, room_last, last}
use Rattle.answer_text.specs.AnswerText.{lf, numbers_text, line_text}
use Rattle.answer_text.proofs.lines.put_line.Goals as goal

pub put_nodes-requires : goal.put_nodes-requires
put_nodes-requires c =
    let nodes = c.args.nodes.now in
    room (numbers_text nodes) (lf ∷ []) (more (begin c.args.w.now.out.now c.args.w.now.at (line_text (c.args.letter ∷ []) nodes)) c.byte.ensures.put) c.requires

pub byte-requires-2 : goal.byte-requires-2
byte-requires-2 c =
    let nodes = c.args.nodes.now in
    room_last (lf ∷ []) (more (more (begin c.args.w.now.out.now c.args.w.now.at (line_text (c.args.letter ∷ []) nodes)) c.byte.ensures.put) c.put_nodes.ensures.put) c.requires

pub returns-clause-put : goal.returns-clause-put
returns-clause-put c =
    let nodes = c.args.nodes.now in
    last (more (more (begin c.args.w.now.out.now c.args.w.now.at (line_text (c.args.letter ∷ []) nodes)) c.byte.ensures.put) c.put_nodes.ensures.put) c.byte-2.ensures.put
