-- `frames::heads::put_paper` meets its contract.
use Rattle.frames.specs.Views.{paper}
use Rattle.frames.proofs.heads.put_paper.Goals as goal

pub bytes-requires : goal.bytes-requires
unfolding paper
bytes-requires c =
    c.requires

pub returns-clause-put : goal.returns-clause-put
unfolding paper
returns-clause-put c =
    c.bytes.ensures.put
