-- `shapes::places::put_up` meets its contract.
use Rattle.shapes.proofs.Numbers.{up_is}
use Rattle.shapes.proofs.places.put_up.Goals as goal

pub put_across-requires : goal.put_across-requires
put_across-requires c = rw (up_is c.args.y) c.requires

pub returns-clause-put : goal.returns-clause-put
returns-clause-put c = rw (up_is c.args.y) at c.put_across.ensures.put
