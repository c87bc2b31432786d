-- `frames::heads::put_size` meets its contract.
use Rattle.frames.proofs.Measures.{seventy_two_is}
use Rattle.frames.proofs.Measures.{size_is}
use Rattle.frames.proofs.heads.put_size.Goals as goal

pub put_across-requires : goal.put_across-requires
put_across-requires c =
    rw (size_is c.args.frame.bounds c.args.frame.margin _ seventy_two_is) c.requires

pub returns-clause-put : goal.returns-clause-put
returns-clause-put c =
    rw (← size_is c.args.frame.bounds c.args.frame.margin _ seventy_two_is) c.put_across.ensures.put
