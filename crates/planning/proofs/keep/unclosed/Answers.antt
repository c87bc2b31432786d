use mathlib.Core.Path.{◌≡◌, ◌∙◌, sym}
use mathlib.Core.Bool.{true, false}
use native.Mathlib.Omega.{arith}
use Rattle.planning.specs.Ring.{close}
use Rattle.planning.proofs.Keeping.{pop_step, pop_none}
use Rattle.planning.proofs.keep.unclosed.Goals as goal

pub loop-m-preserved : goal.loop-m-preserved
loop-m-preserved c =
    let l = c.loop-m in
    let is : c.close.result ≡ close c.args.limit c.at.result c.at-in-loop-m.result = c.close.ensures in
    let popped : c.close.result ≡ true = c.if-close.true in
    let t = sym is ∙ popped in
    let e = pop_step c.args.limit c.args.kept.now.pts.now l.m c.loop-m-test.true in
    (omega arith, sym (rw (← c.at.ensures, ← c.at-in-loop-m.ensures, t) at e) ∙ l.invariant.1)

pub returns-else-close : goal.returns-else-close
returns-else-close c =
    let l = c.loop-m in
    let is : c.close.result ≡ close c.args.limit c.at.result c.at-in-loop-m.result = c.close.ensures in
    let left : c.close.result ≡ false = c.if-close.false in
    let t = sym is ∙ left in
    let e = pop_step c.args.limit c.args.kept.now.pts.now l.m c.loop-m-test.true in
    (sym (rw (← c.at.ensures, ← c.at-in-loop-m.ensures, t) at e) ∙ l.invariant.1, omega arith)

pub returns-after-loop-m : goal.returns-after-loop-m
returns-after-loop-m c = (pop_none _ _ _ c.loop-m-test.false ∙ c.loop-m.invariant.1, omega arith)
