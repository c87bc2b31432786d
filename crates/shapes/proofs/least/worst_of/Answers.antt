-- `shapes::least::worst_of` meets its contract.
use Rattle.shapes.proofs.least.worst_of.Goals as goal

pub returns : goal.returns
returns c =
    rw (c.least_corner.ensures, c.place_of-a.ensures, c.place_of-b.ensures, c.place_of-c.ensures, c.place_of-d.ensures)
