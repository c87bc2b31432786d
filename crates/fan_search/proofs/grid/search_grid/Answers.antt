use Rattle.fan_search.specs.Values.{boxed}
use Rattle.fan_search.proofs.Searching.{grid_none, grid_more}
use Rattle.fan_search.proofs.grid.search_grid.Goals as goal

pub loop-i-init : goal.loop-i-init
loop-i-init g c = grid_none _ _ _ _

pub loop-i-preserved : goal.loop-i-preserved
loop-i-preserved g c = grid_more _ _ (boxed c.args.b) _ _ _ _ c.loop-i.invariant c.search_column-found.ensures
