-- `frames::heads::put_under` meets its contract.
use Rattle.shapes.proofs.Literals.{half_is}
use Rattle.frames.proofs.Measures.{under_is}
use Rattle.frames.proofs.heads.put_under.Goals as goal

pub put_up-requires : goal.put_up-requires
put_up-requires c =
    rw (under_is c.args.frame.bounds c.args.frame.margin _ half_is) c.requires

pub returns-clause-put : goal.returns-clause-put
returns-clause-put c =
    rw (← under_is c.args.frame.bounds c.args.frame.margin _ half_is) c.put_up.ensures.put
