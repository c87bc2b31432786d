use Rattle.exports_geometry.proofs.Loops.{fit_first, fit_one, fit_here, fit_next, fit_end}
use Rattle.exports_geometry.proofs.outline.loops_fit.Goals as goal

pub returns-then-loop_lengths-eq1 : goal.returns-then-loop_lengths-eq1
returns-then-loop_lengths-eq1 c =
    fit_one _ _ _ c.if-loop_lengths-eq1.true c.from.ensures

pub loop-n-init : goal.loop-n-init
loop-n-init c = fit_first _ _

pub returns-then-left-n : goal.returns-then-left-n
returns-then-left-n c =
    fit_here _ _ _ _ c.loop-n-test.true c.from-n.ensures _ c.loop-n.invariant c.if-left-n.true

pub loop-n-preserved : goal.loop-n-preserved
loop-n-preserved c =
    fit_next _ _ _ _ c.loop-n-test.true c.from-n.ensures _ c.loop-n.invariant c.if-left-n.false

pub returns : goal.returns
returns c = fit_end _ _ _ _ c.loop-n-test.false c.loop-n.invariant
