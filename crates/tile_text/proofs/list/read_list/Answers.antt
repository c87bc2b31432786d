-- `tile_text::list::read_list` meets its contract.
use Rattle.tile_text.proofs.Listing.{list_read}
use Rattle.tile_text.proofs.list.read_list.Goals as goal

pub returns-clause-read : goal.returns-clause-read
returns-clause-read c =
    list_read _ _ _ _ _ _ _ _ _ _ _ _ _ _ _ _ _ _ _ _ c.read_rings-loops.ensures c.read_done-done.ensures c.read_points-p.ensures c.read_rings-q.ensures c.read_rings-f.ensures
