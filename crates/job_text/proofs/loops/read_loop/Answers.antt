use mathlib.Core.Path.{◌∙◌}
use native.Mathlib.Omega.{arith}
use Rattle.job_text.proofs.Points.{Line, line, no_line}
use Rattle.job_text.proofs.Following.{left_step, left_done}
use Rattle.job_text.proofs.loops.read_loop.Goals as goal
use Rattle.job_text.proofs.loops.read_loop.Goals.{In-Some}

point : (c : In-Some) → Line c.args.text.now c.loop-line.next c.in-Some.line
point c = line _ _ c.loop-line.invariant.1.within.1 _ c.in-Some.ensures

pub loop-line-smaller : goal.loop-line-smaller
loop-line-smaller c = let w = (point (goal.at.loop-line-smaller c).In-Some).within in omega arith

pub loop-line-preserved : goal.loop-line-preserved
loop-line-preserved c = (
  c.store_point.auto.coords ∙ c.loop-line.invariant.0,
  left_step c.args.text.now c.args.at c.args.pairs c.args.coords.now c.loop-line.coords c.loop-line.next c.loop-line.count c.loop-line.invariant.1 (point (goal.at.loop-line-preserved c).In-Some) _ c.store_point.ensures,
)

pub returns : goal.returns
returns c =
    let none_left = no_line c.args.text.now c.loop-line.next c.in_default.ensures in
    left_done c.args.text.now c.args.at c.args.pairs c.args.coords.now c.loop-line.coords c.loop-line.next c.loop-line.count c.loop-line.invariant.1 none_left
