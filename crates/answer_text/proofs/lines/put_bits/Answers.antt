-- `answer_text::lines::put_bits` meets its contract. A tab, then the digits.
use mathlib.Core.List.{◌∷◌}
use Rattle.text.specs.Hex.{bits_text}
use Rattle.text.proofs.Midst.{begin, more, room_last, last}
use Rattle.answer_text.specs.AnswerText.{tab}
use Rattle.answer_text.proofs.lines.put_bits.Goals as goal

pub hex-requires : goal.hex-requires
hex-requires c =
    rw c.bits_of.ensures (room_last (bits_text c.args.x) (more (begin c.args.w.now.out.now c.args.w.now.at (tab ∷ bits_text c.args.x)) c.byte.ensures.put) c.requires)

pub returns-clause-put : goal.returns-clause-put
returns-clause-put c =
    last (more (begin c.args.w.now.out.now c.args.w.now.at (tab ∷ bits_text c.args.x)) c.byte.ensures.put) (rw c.bits_of.ensures at c.hex.ensures.put)
