-- `answer_text::lines::put_nodes` meets its contract. The invariant: the numbers from here on are left.
use lib.ListN.{drop}
use Rattle.text.proofs.Midst.{Midst}
use Rattle.answer_text.specs.AnswerText.{numbers_text}
use Rattle.text.specs.Writing.{Same}
use Rattle.answer_text.proofs.lines.put_nodes.Given as goal

abbrev pub invariant-loop-node : goal.invariant-loop-node
invariant-loop-node l = Midst l.initial.w.out.now l.initial.w.at (numbers_text l.nodes) l.w.out.now l.w.at (numbers_text (drop l.node-index l.nodes)) × Same l.initial.w l.w
