-- `frames::heads::put_opening` meets its contract.
use Rattle.frames.specs.Views.{opening}
use Rattle.frames.proofs.heads.put_opening.Goals as goal

pub bytes-requires : goal.bytes-requires
unfolding opening
bytes-requires c =
    c.requires

pub returns-clause-put : goal.returns-clause-put
unfolding opening
returns-clause-put c =
    c.bytes.ensures.put
