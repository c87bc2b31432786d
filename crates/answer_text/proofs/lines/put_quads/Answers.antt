use Rattle.std.proofs.Common.{refl, ◌∙◌}
use mathlib.Core.Path.{sym, ap}
use mathlib.Core.List.{List, [], ◌∷◌, map}
use Rattle.std.specs.Slice.Iter.{chunks_exact_rest}
use Rattle.state.specs.State.{Quad, quad_nodes}
use Rattle.text.proofs.Midst.{begin, more, room, ended, same_rest}
use Rattle.answer_text.specs.AnswerText.{line_text, lines_text}
use Rattle.answer_text.proofs.LineLaws.{all_quads, quads_next, quads_end}
use Rattle.answer_text.proofs.lines.put_quads.Goals as goal

pub loop-quad-init : goal.loop-quad-init
loop-quad-init c =
    let all = sym (ap all_quads c.chunks_exact-quad-items.ensures.rest) in
    rw c.into_iter-quad-iterator.ensures.into_iter_gives
    (c.chunks_exact-quad-items.ensures.size, same_rest (ap (λ (qs : List Quad). lines_text (113 ∷ []) (map quad_nodes qs)) all) (begin _ _ _), refl)

pub put_line-requires : goal.put_line-requires
put_line-requires c =
    let q = c.in-Some.quad.now in
    let step = c.in-Some.ensures.steps.1 in
    room (line_text (113 ∷ []) q) (lines_text (113 ∷ []) (map quad_nodes (all_quads (chunks_exact_rest c.next.new.self)))) (same_rest (quads_next (113 ∷ []) _ q _ step.0 (step.1 ∙ c.loop-quad.invariant.0)) c.loop-quad.invariant.1) c.requires

pub loop-quad-preserved : goal.loop-quad-preserved
loop-quad-preserved c =
    let q = c.in-Some.quad.now in
    let step = c.in-Some.ensures.steps in
    (step.0 ∙ c.loop-quad.invariant.0, more (same_rest (quads_next (113 ∷ []) _ q _ step.1.0 (step.1.1 ∙ c.loop-quad.invariant.0)) c.loop-quad.invariant.1) c.put_line.ensures.put, c.put_line.ensures.same ∙ c.loop-quad.invariant.2)

pub returns-clause-put : goal.returns-clause-put
returns-clause-put c =
    let few = c.in-None.ensures.steps.1.0 in
    let four = c.loop-quad.invariant.0 in
    ended (same_rest (quads_end (113 ∷ []) _ (rw four at few)) c.loop-quad.invariant.1)
