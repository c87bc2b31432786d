use mathlib.Core.Path.{refl, sym, ◌∙◌}
use Rattle.fan_search.proofs.Searching.{nearer, outside, beyond, farther}
use Rattle.fan_search.proofs.Barring.{barred, now_squared, rooted_least}
use Rattle.fan_search.proofs.grid.try_point.Goals as goal
use Rattle.fan_search.proofs.grid.try_point.Goals.{else-best-clearance-via-then-best-clearance+else-contains, else-best-clearance-via-else-best-clearance}

pub returns-then-side_square-best : goal.returns-then-side_square-best
returns-then-side_square-best g c b =
    let best = c.args.best in
    nearer _ _ b _ _ (barred _ _ best.clearance best.square best.squared _ (rw c.size.ensures at c.if-best-size.true) c.side_square.ensures c.if-side_square-best.true)

pub returns-then-not-in_polygon : goal.returns-then-not-in_polygon
returns-then-not-in_polygon g c b = beyond _ _ b _ _ _ c.in_polygon.ensures c.if-not-in_polygon.true

pub returns-in-Err : goal.returns-in-Err
returns-in-Err g c b =
    let best = c.args.best in
    let side = c.in-Err.ensures in
    nearer _ _ b _ _ (barred _ _ best.clearance best.square best.squared _ side.0 refl side.1)

pub invariant_of-result : goal.invariant_of-result
invariant_of-result g c = record { squared = now_squared _ _ c.in-Ok.ensures c.root-clearance.ensures }

pub returns-then-contains : goal.returns-then-contains
returns-then-contains g c b =
    farther _ _ b _ _ _ c.in_polygon.ensures _ c.if-not-in_polygon.false (sym c.contains.ensures ∙ c.if-contains.true) (rooted_least _ _ c.in-Ok.ensures c.root-clearance.ensures) c.if-best-clearance.true

pub returns : goal.returns
returns g c b =
    elim c.else-best-clearance.branch [
      | else-best-clearance-via-then-best-clearance+else-contains w ↦ outside _ _ b _ _ (sym w.contains.ensures ∙ w.if-contains.false)
      | else-best-clearance-via-else-best-clearance w ↦ nearer _ _ b _ _ (rw (← rooted_least _ _ (c.in-Ok.ensures) c.root-clearance.ensures) w.if-best-clearance.false)
    ]
