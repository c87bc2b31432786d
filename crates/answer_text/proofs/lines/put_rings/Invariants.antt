-- `answer_text::lines::put_rings` meets its contract. The invariant: the rings from here on are left, and their nodes begin at `start`.
use mathlib.Core.List.{[], ◌∷◌}
use Prim.Native.Nat.{◌+◌, ◌≤◌}
use lib.ListN.{length, drop}
use Rattle.geometry.specs.Domain.{sum_of}
use Rattle.state.specs.State.{cut}
use Rattle.text.proofs.Midst.{Midst}
use Rattle.answer_text.specs.AnswerText.{lines_text}
use Rattle.text.specs.Writing.{Same}
use Rattle.answer_text.proofs.lines.put_rings.Given as goal

abbrev pub invariant-loop-count : goal.invariant-loop-count
invariant-loop-count l =
    (l.start + sum_of (drop l.count-index l.lengths) ≤ length l.nodes) × Midst l.initial.w.out.now l.initial.w.at (lines_text (l.letter ∷ []) (cut l.lengths l.nodes)) l.w.out.now l.w.at (lines_text (l.letter ∷ []) (cut (drop l.count-index l.lengths) (drop l.start l.nodes))) × Same l.initial.w l.w
