-- `placing::place::Side::point` meets its contract.
use Rattle.placing.proofs.Literals.{half_is}
use Rattle.placing.proofs.place.Side.point.Goals as goal

pub returns : goal.returns
returns c =
    rw (half_is, c.whole.ensures, c.whole-2.ensures)
