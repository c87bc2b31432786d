-- `frames::heads::put_lighter` meets its contract.
use Rattle.frames.specs.Views.{lighter}
use Rattle.frames.proofs.heads.put_lighter.Goals as goal

pub bytes-requires : goal.bytes-requires
unfolding lighter
bytes-requires c =
    c.requires

pub returns-clause-put : goal.returns-clause-put
unfolding lighter
returns-clause-put c =
    c.bytes.ensures.put
