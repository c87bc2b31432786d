-- `frames::heads::put_middle` meets its contract.
use Rattle.shapes.proofs.Literals.{half_is}
use Rattle.frames.proofs.Measures.{middle_is}
use Rattle.frames.proofs.heads.put_middle.Goals as goal

pub put_across-requires : goal.put_across-requires
put_across-requires c =
    rw (middle_is c.args.b _ half_is) c.requires

pub returns-clause-put : goal.returns-clause-put
returns-clause-put c =
    rw (← middle_is c.args.b _ half_is) c.put_across.ensures.put
