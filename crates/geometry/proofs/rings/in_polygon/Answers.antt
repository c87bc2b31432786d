use mathlib.Core.Path.{◌∙◌, sym}
use Rattle.geometry.proofs.Steps.{all_counted, closing-counted, no_sides, one_beside, one_counted}
use Rattle.geometry.proofs.rings.in_polygon.Goals as goal
use Rattle.geometry.proofs.rings.in_polygon.Goals.{then-below-below_b, else-below-below_b}

pub returns-then-n-eq0 : goal.returns-then-n-eq0
returns-then-n-eq0 g c = no_sides _ _ (sym c.size-n.ensures ∙ c.if-n-eq0.true)

pub loop-i-init : goal.loop-i-init
loop-i-init g c =
    closing-counted _ _ _ _ _ (rw c.size-n.ensures at c.if-n-eq0.false) (rw c.size-n.ensures at c.at-end.ensures) c.at-first.ensures c.ray_crosses-inside.ensures

pub loop-i-preserved : goal.loop-i-preserved
loop-i-preserved g c =
    let more = rw c.size-n.ensures at c.loop-i-test.true in
    elim c.if-below-below_b.branch [
      | then-below-below_b w ↦ rw (w.inside-is, w.below-is) (one_counted c.loop-i.invariant _ _ _ more w.at-a.ensures c.at-b.ensures w.crosses_between-inside.ensures)
      | else-below-below_b w ↦ rw (w.inside-is, w.below-is) (one_beside c.loop-i.invariant _ more c.at-b.ensures w.if-below-below_b.false)
    ]

pub returns : goal.returns
returns g c = all_counted c.loop-i.invariant (rw c.size-n.ensures at c.loop-i-test.false)
