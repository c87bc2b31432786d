-- `frames::heads::put_plain_caption` meets its contract.
use Rattle.state.specs.State.{joined}
use Rattle.frames.specs.Views.{caption_text}
use Rattle.frames.specs.Views.{plain_caption}
use Rattle.frames.proofs.heads.put_plain_caption.Goals as goal

pub bytes-requires : goal.bytes-requires
unfolding plain_caption caption_text joined
bytes-requires c =
    c.requires

pub returns-clause-put : goal.returns-clause-put
unfolding plain_caption caption_text joined
returns-clause-put c =
    c.bytes.ensures.put
