-- `passes::order::pass_order` meets its contract.
use lib.ListN.{length}
use Rattle.passes.specs.Order.{length_in, length_of}
use Rattle.passes.proofs.Inserting.{order_measured}
use Rattle.passes.proofs.order.pass_order.Goals as goal

pub returns : goal.returns
returns c =
    let f = c.args.fronts.now in
    order_measured (length_in c.lengths_of-lengths.result) (length_of f.points.now f.nodes.now f.lengths.now) (length f.lengths.now) c.sorted.result c.lengths_of-lengths.ensures c.sorted.ensures
