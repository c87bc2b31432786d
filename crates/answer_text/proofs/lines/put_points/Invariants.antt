-- `answer_text::lines::put_points` meets its contract. The invariant: the points that the iterator has left are left.
use mathlib.Core.Path.{◌≡◌}
use Rattle.std.specs.Slice.Iter.{chunks_exact_rest, chunks_exact_size}
use Rattle.text.proofs.Midst.{Midst}
use Rattle.answer_text.specs.AnswerText.{points_text}
use Rattle.text.specs.Writing.{Same}
use Rattle.answer_text.proofs.lines.put_points.Given as goal

abbrev pub invariant-loop-point : goal.invariant-loop-point
invariant-loop-point l = (chunks_exact_size l.point-iterator ≡ 2) × Midst l.initial.w.out.now l.initial.w.at (points_text l.points) l.w.out.now l.w.at (points_text (chunks_exact_rest l.point-iterator)) × Same l.initial.w l.w
