-- `answer_text::answer::put_counts` meets its contract. The invariant: the counts from here on and the LF are left.
use mathlib.Core.List.{[], ◌∷◌, ◌++◌}
use lib.ListN.{drop}
use Rattle.text.proofs.Midst.{Midst}
use Rattle.answer_text.specs.AnswerText.{lf, numbers_text, line_text, count_numbers}
use Rattle.text.specs.Writing.{Same}
use Rattle.answer_text.proofs.answer.put_counts.Given as goal

abbrev pub invariant-loop-count : goal.invariant-loop-count
invariant-loop-count l = Midst l.fn.w.out.now l.fn.w.at (line_text (100 ∷ 111 ∷ 110 ∷ 101 ∷ []) (count_numbers l.fn.counts)) l.w.out.now l.w.at (numbers_text (drop l.count-index l.count-items) ++ (lf ∷ [])) × Same l.fn.w l.w
