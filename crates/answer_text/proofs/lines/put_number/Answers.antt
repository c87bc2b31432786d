-- `answer_text::lines::put_number` meets its contract. A tab, then the digits.
use mathlib.Core.List.{◌∷◌}
use Rattle.text.specs.Decimal.{decimal_text}
use Rattle.text.proofs.Midst.{begin, more, last}
use Rattle.answer_text.specs.AnswerText.{tab}
use Rattle.answer_text.proofs.lines.put_number.Goals as goal

pub returns-clause-put : goal.returns-clause-put
returns-clause-put c =
    last (more (begin c.args.w.now.out.now c.args.w.now.at (tab ∷ decimal_text c.args.n)) c.byte.ensures.put) c.decimal.ensures.put
