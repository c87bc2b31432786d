use Rattle.fan_search.proofs.Searching.{box_next}
use Rattle.fan_search.proofs.grid.box_of.Goals as goal

pub loop-i-preserved : goal.loop-i-preserved
loop-i-preserved g c = rw c.with-b.ensures (box_next _ _ _ _ c.loop-i.invariant c.at.ensures)
