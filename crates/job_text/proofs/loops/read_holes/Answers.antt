use mathlib.Core.Path.{sym, ◌∙◌}
use native.Mathlib.Omega.{arith}
use Rattle.job_text.specs.Drawing.{hole_word}
use Rattle.job_text.specs.Answers.{stored}
use Rattle.job_text.proofs.Points.{There, there, not_there}
use Rattle.job_text.proofs.Following.{loop_place}
use Rattle.job_text.proofs.Storing.{holes_done, holes_stop, holes_step}
use Rattle.job_text.proofs.loops.read_holes.Goals as goal
use Rattle.job_text.proofs.loops.read_holes.Goals.{In_ok-at}

hole : (c : In_ok-at) → There hole_word c.args.text.now c.loop-next.next c.in_ok-at.at
hole c = there hole_word _ _ c.loop-next.invariant.0 _ c.in_ok-at.ensures

pub returns-in_err-at : goal.returns-in_err-at
returns-in_err-at c =
    let l = c.loop-next in
    let stops = not_there hole_word _ l.next c.in_err-at.ensures in
    rw c.from_residual.ensures (sym (l.invariant.5 ∙ holes_stop _ l.next (stored l.coords l.loop_lengths l.pairs l.loops) c.loop-next-test.true stops))

pub read_loop-hole-requires : goal.read_loop-hole-requires
read_loop-hole-requires c =
    let w = (hole (goal.at.read_loop-hole-requires c).In_ok-at).within in
    let p = c.loop-next.invariant.1 in
    let from = w.0 in
    (w.1, omega arith, c.loop-next.invariant.3 ∙ c.requires.3)

pub narrow-requires : goal.narrow-requires
narrow-requires c =
    let w = (hole (goal.at.narrow-requires c).In_ok-at).within in
    let p = loop_place _ c.in_ok-at.at c.loop-next.pairs _ _ c.read_loop-hole.result w.1 c.read_loop-hole.ensures in
    let s = c.requires.1 in
    omega (arith, p.0, p.1)

pub loop-next-smaller : goal.loop-next-smaller
loop-next-smaller c =
    let w = (hole (goal.at.loop-next-smaller c).In_ok-at).within in
    let p = loop_place _ c.in_ok-at.at c.loop-next.pairs _ _ c.read_loop-hole.result w.1 c.read_loop-hole.ensures in
    omega (arith, w.0, p.0, p.1)

pub loop-next-preserved : goal.loop-next-preserved
loop-next-preserved c =
    let here = hole (goal.at.loop-next-preserved c).In_ok-at in
    let w = here.within in
    let p = loop_place _ c.in_ok-at.at c.loop-next.pairs _ _ c.read_loop-hole.result w.1 c.read_loop-hole.ensures in
    let l = c.loop-next in
    let q = l.invariant.1 in
    let n = l.invariant.2 in
    let step = holes_step _ l.next (stored l.coords l.loop_lengths l.pairs l.loops) here c.read_loop-hole.new.coords c.store.new.numbers c.read_loop-hole.result c.read_loop-hole.ensures (rw (sym c.narrow.ensures) c.store.ensures) in
    (p.1, omega (arith, w.0, p.0), omega (arith, w.0, p.0), c.read_loop-hole.auto.coords ∙ l.invariant.3, c.store.auto.numbers ∙ l.invariant.4, l.invariant.5 ∙ step)

pub returns : goal.returns
returns c =
    let l = c.loop-next in
    sym (l.invariant.5 ∙ holes_done _ l.next (stored l.coords l.loop_lengths l.pairs l.loops) c.loop-next-test.false)
