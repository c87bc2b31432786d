-- `shapes::places::put_across` meets its contract.
use Rattle.float.proofs.Literals.{zero_is}
use Rattle.shapes.proofs.Numbers.{across_is}
use Rattle.shapes.proofs.places.put_across.Goals as goal

pub put_fixed-requires : goal.put_fixed-requires
put_fixed-requires c =
    rw (across_is c.args.x _ _ zero_is c.thousandths-n.ensures) c.requires

pub returns-clause-put : goal.returns-clause-put
returns-clause-put c =
    rw (across_is c.args.x _ _ zero_is c.thousandths-n.ensures) at c.put_fixed.ensures.put
