-- `frames::heads::put_strokes` meets its contract.
use Rattle.frames.specs.Views.{strokes}
use Rattle.frames.proofs.heads.put_strokes.Goals as goal

pub bytes-requires : goal.bytes-requires
unfolding strokes
bytes-requires c =
    c.requires

pub returns-clause-put : goal.returns-clause-put
unfolding strokes
returns-clause-put c =
    c.bytes.ensures.put
