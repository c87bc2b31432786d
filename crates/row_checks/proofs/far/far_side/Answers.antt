use mathlib.Core.Path.{sym}
use native.Mathlib.Omega.{arith}
use Rattle.rules.proofs.Every.{every_none, every-next}
use Rattle.row_checks.proofs.FarClear.{foot_of, short_side, all_feet}
use Rattle.row_checks.proofs.far.far_side.Goals as goal

pub returns-then-length2-short : goal.returns-then-length2-short
returns-then-length2-short c =
    let g = c.args in
    short_side g.short g.bound g.row.now.pts.now g.row.now.n g.a g.b c.if-length2-short.true

pub loop-i-init : goal.loop-i-init
loop-i-init c = sym (every_none _)

pub loop-i-preserved : goal.loop-i-preserved
loop-i-preserved c =
    every-next _ c.loop-i.i c.loop-i.invariant (foot_of c.args.bound c.args.a _ _ _ c.at-p.ensures c.clamp_unit-t.ensures)

pub returns : goal.returns
returns c =
    let g = c.args in
    all_feet g.short g.bound g.row.now.pts.now g.row.now.n g.a g.b c.if-length2-short.false c.loop-i.i (omega arith) c.loop-i.invariant
