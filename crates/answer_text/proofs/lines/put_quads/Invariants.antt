-- `answer_text::lines::put_quads` meets its contract. The invariant: the quads that the iterator has left are left.
use mathlib.Core.Path.{◌≡◌}
use mathlib.Core.List.{[], ◌∷◌, map}
use Rattle.std.specs.Slice.Iter.{chunks_exact_rest, chunks_exact_size}
use Rattle.state.specs.State.{quad_nodes}
use Rattle.text.proofs.Midst.{Midst}
use Rattle.answer_text.specs.AnswerText.{lines_text}
use Rattle.text.specs.Writing.{Same}
use Rattle.answer_text.proofs.LineLaws.{all_quads}
use Rattle.answer_text.proofs.lines.put_quads.Given as goal

abbrev pub invariant-loop-quad : goal.invariant-loop-quad
invariant-loop-quad l = (chunks_exact_size l.quad-iterator ≡ 4) × Midst l.initial.w.out.now l.initial.w.at (lines_text (113 ∷ []) (map quad_nodes (all_quads l.quads))) l.w.out.now l.w.at (lines_text (113 ∷ []) (map quad_nodes (all_quads (chunks_exact_rest l.quad-iterator)))) × Same l.initial.w l.w
