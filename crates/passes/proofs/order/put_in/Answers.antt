-- `passes::order::put_in` meets its contract.
use Rattle.passes.proofs.Inserting.{moved_up}
use Rattle.passes.proofs.order.put_in.Goals as goal

pub returns : goal.returns
returns c = rw c.copy_within.ensures.after (moved_up c.args.order.now c.args.at c.args.i c.args.i c.requires.0 c.requires.1)
