use Rattle.fan_search.specs.Values.{boxed}
use Rattle.fan_search.proofs.Searching.{column_none, column_more}
use Rattle.fan_search.proofs.grid.search_column.Goals as goal

pub loop-j-init : goal.loop-j-init
loop-j-init g c = column_none _ _ _ _ _

pub loop-j-preserved : goal.loop-j-preserved
loop-j-preserved g c = column_more _ _ (boxed c.args.b) _ _ _ _ _ _ c.grid_point-p.ensures c.loop-j.invariant (c.try_point-found.ensures (boxed c.args.b))
