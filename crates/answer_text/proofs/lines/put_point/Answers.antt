-- `answer_text::lines::put_point` meets its contract. The letter, the bits of x, the bits of y, the LF.
use mathlib.Core.List.{[], ◌∷◌, ◌++◌}
use Rattle.text.specs.Hex.{bits_text}
use Rattle.text.proofs.Midst.{begin, more, room, room_last, last}
use Rattle.answer_text.specs.AnswerText.{tab, lf, point_text}
use Rattle.answer_text.proofs.lines.put_point.Goals as goal

pub put_bits-requires : goal.put_bits-requires
put_bits-requires c =
    room (tab ∷ bits_text c.args.x) ((tab ∷ bits_text c.args.y) ++ (lf ∷ []))
    (more (begin c.args.w.now.out.now c.args.w.now.at (point_text c.args.x c.args.y)) c.byte.ensures.put) c.requires

pub put_bits-requires-2 : goal.put_bits-requires-2
put_bits-requires-2 c =
    room (tab ∷ bits_text c.args.y) (lf ∷ [])
    (more (more (begin c.args.w.now.out.now c.args.w.now.at (point_text c.args.x c.args.y)) c.byte.ensures.put) c.put_bits.ensures.put) c.requires

pub byte-requires-2 : goal.byte-requires-2
byte-requires-2 c =
    room_last (lf ∷ [])
    (more (more (more (begin c.args.w.now.out.now c.args.w.now.at (point_text c.args.x c.args.y)) c.byte.ensures.put) c.put_bits.ensures.put) c.put_bits-2.ensures.put) c.requires

pub returns-clause-put : goal.returns-clause-put
returns-clause-put c =
    last (more (more (more (begin c.args.w.now.out.now c.args.w.now.at (point_text c.args.x c.args.y)) c.byte.ensures.put) c.put_bits.ensures.put) c.put_bits-2.ensures.put) c.byte-2.ensures.put
