use Rattle.std.proofs.Common.{◌∙◌}
use lib.Ieee.{nan}
use lib.ListN.{get_or}
use Rattle.std.specs.Slice.Iter.{chunks_exact_rest}
use Rattle.text.proofs.Midst.{more, room, ended, same_rest}
use Rattle.answer_text.specs.AnswerText.{point_text, points_text}
use Rattle.answer_text.proofs.LineLaws.{points_next, points_end}
use Rattle.answer_text.proofs.lines.put_points.Goals as goal

pub put_point-requires : goal.put_point-requires
put_point-requires c =
    let p = c.in-Some.point.now in
    let step = c.in-Some.ensures.steps.1 in
    room (point_text (get_or p 0 nan) (get_or p 1 nan)) (points_text (chunks_exact_rest c.next.new.self)) (same_rest (points_next _ p _ nan step.0 (step.1 ∙ c.loop-point.invariant.0)) c.loop-point.invariant.1) c.requires

pub loop-point-preserved : goal.loop-point-preserved
loop-point-preserved c =
    let p = c.in-Some.point.now in
    let step = c.in-Some.ensures.steps in
    (step.0 ∙ c.loop-point.invariant.0, more (same_rest (points_next _ p _ nan step.1.0 (step.1.1 ∙ c.loop-point.invariant.0)) c.loop-point.invariant.1) c.put_point.ensures.put, c.put_point.ensures.same ∙ c.loop-point.invariant.2)

pub returns-clause-put : goal.returns-clause-put
returns-clause-put c =
    let few = c.in-None.ensures.steps.1.0 in
    let two = c.loop-point.invariant.0 in
    ended (same_rest (points_end _ (rw two at few)) c.loop-point.invariant.1)

pub returns-clause-same : goal.returns-clause-same
returns-clause-same c = c.loop-point.invariant.2
