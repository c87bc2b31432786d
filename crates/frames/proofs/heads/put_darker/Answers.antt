-- `frames::heads::put_darker` meets its contract.
use Rattle.frames.specs.Views.{darker}
use Rattle.frames.proofs.heads.put_darker.Goals as goal

pub bytes-requires : goal.bytes-requires
unfolding darker
bytes-requires c =
    c.requires

pub returns-clause-put : goal.returns-clause-put
unfolding darker
returns-clause-put c =
    c.bytes.ensures.put
