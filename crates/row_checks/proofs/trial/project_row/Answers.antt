use mathlib.Core.Path.{◌≡◌, refl, ap, ◌∙◌}
use mathlib.Core.Bool.{cond}
use native.Mathlib.Omega.{arith}
use Rattle.geometry.specs.Rings.{Ring}
use Rattle.state.proofs.Basics.{twenty_two}
use Rattle.rules.specs.Checks.{new_points}
use Rattle.rules.proofs.Every.{every_none, every_more, every_stops, every_end}
use Rattle.row_checks.proofs.Building.{projects, projected_at, handed_on, fails, passes, points_more, length_more, row_more, row_done}
use Rattle.row_checks.proofs.trial.project_row.Goals as goal

pub loop-i-init : goal.loop-i-init
unfolding new_points
loop-i-init g c =
    (every_none _, refl, refl, refl, c.side_length-l1.ensures, λ l. (rw c.prev_of-last.ensures.value at c.at-a.ensures, c.at-b.ensures))

pub project-requires : goal.project-requires
project-requires g c =
    (c.loop-i.invariant.4, c.side_length-l2.ensures)

pub shape_of-row-in_default : goal.shape_of-row-in_default
shape_of-row-in_default g c =
    c.loop-i.invariant.2

pub returns-in_default : goal.returns-in_default
returns-in_default g c =
    let h = c.args.h in
    let r : Ring = g.R.Ring.ring c.args.ring.now in
    let size = c.size-n.ensures in
    let l = rw size at c.loop-i-test.true in
    let w = rw size at (c.loop-i.invariant.5 c.loop-i-test.true) in
    let e = projected_at r h c.loop-i.i _ _ _ _ _ c.project.ensures w c.at-c.ensures (rw size at c.next_of-after.ensures.value) in record {
      value = ap (λ b. cond b 0 22) (every_stops (projects r h) _ _ l (fails r h c.loop-i.i _ e c.in_default.is));
      row_after = λ f. absurd (twenty_two f);
    }

pub put_point-requires : goal.put_point-requires
put_point-requires g c =
    omega (arith, c.loop-i.invariant.2, c.requires.1, c.size-n.ensures)

pub loop-i-preserved : goal.loop-i-preserved
loop-i-preserved g c =
    let a = c.args in
    let r : Ring = g.R.Ring.ring a.ring.now in
    let size = c.size-n.ensures in
    let l = rw size at c.loop-i-test.true in
    let w = rw size at (c.loop-i.invariant.5 c.loop-i-test.true) in
    let next-is = rw size at c.next_of-after.ensures.value in
    let c-is = c.at-c.ensures in
    let e = projected_at r a.h c.loop-i.i _ _ _ _ _ c.project.ensures w c-is next-is in
    let at-is = c.in-At.is in
    let m = points_more r a.h c.loop-i.i _ _ _ e at-is in (
      every_more (projects r a.h) _ c.loop-i.invariant.0 (passes r a.h c.loop-i.i _ _ _ e at-is),
      length_more r a.h _ _ _ c.loop-i.invariant.1 m,
      c.put_point.auto.pts ∙ c.loop-i.invariant.2,
      row_more r a.h _ _ _ a.row.now c.loop-i.row _ c.loop-i.invariant.3 c.loop-i.invariant.1 m c.put_point.ensures,
      c.side_length-l2.ensures,
      λ m. rw size (handed_on r c.loop-i.i _ _ _ l w.1 c-is next-is (rw size at m)),
    )

pub shape_of-row : goal.shape_of-row
shape_of-row g c = c.loop-i.invariant.2

pub returns : goal.returns
returns g c =
    let a = c.args in
    let r : Ring = g.R.Ring.ring a.ring.now in
    let e : c.loop-i.i ≡ r.size = omega (arith, c.size-n.ensures) in record {
      value = ap (λ b. cond b 0 22) (every_end (projects r a.h) _ _ c.loop-i.invariant.0 e);
      row_after = λ _. row_done r a.h _ a.row.now _ (rw e at c.loop-i.invariant.3) (rw e at c.loop-i.invariant.1) c.requires.1;
    }
