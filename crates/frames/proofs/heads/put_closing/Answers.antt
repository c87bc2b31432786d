-- `frames::heads::put_closing` meets its contract.
use Rattle.frames.specs.Views.{closing}
use Rattle.frames.proofs.heads.put_closing.Goals as goal

pub bytes-requires : goal.bytes-requires
unfolding closing
bytes-requires c =
    c.requires

pub returns-clause-put : goal.returns-clause-put
unfolding closing
returns-clause-put c =
    c.bytes.ensures.put
