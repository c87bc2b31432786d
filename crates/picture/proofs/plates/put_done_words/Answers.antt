-- `picture::plates::put_done_words` meets its contract.
use Rattle.picture.proofs.plates.put_done_words.Goals as goal

pub put_done-requires : goal.put_done-requires
put_done-requires c =
    rw c.worst-least.ensures c.requires

pub returns-clause-put : goal.returns-clause-put
returns-clause-put c =
    rw c.worst-least.ensures at c.put_done.ensures.put
