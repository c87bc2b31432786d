-- `shapes::tiles::put_tile` meets its contract.
use Rattle.shapes.proofs.Numbers.{step_small}
use Rattle.shapes.proofs.Turns.{tile_is}
use native.Mathlib.Omega.{arith}
use borrow.Author.Rules.{rules}
use Rattle.shapes.proofs.tiles.put_tile.Goals as goal

pub overflow_add-step : goal.overflow_add-step
overflow_add-step c =
    let h = step_small c.args.limit c.worst_of.result in
    let e = c.step_of-step.ensures in
    omega arith

pub put_shape-requires : goal.put_shape-requires
put_shape-requires c =
    rw (tile_is c.args.limit c.args.points.now c.args.nodes.now _ _ (search rules) c.worst_of.ensures c.step_of-step.ensures) c.requires

pub returns-clause-put : goal.returns-clause-put
returns-clause-put c =
    rw (← tile_is c.args.limit c.args.points.now c.args.nodes.now _ _ (search rules) c.worst_of.ensures c.step_of-step.ensures) c.put_shape.ensures.put
