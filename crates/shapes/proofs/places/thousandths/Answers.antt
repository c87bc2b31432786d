-- `shapes::places::thousandths` meets its contract.
use Rattle.shapes.specs.Places.{thousandths}
use Rattle.shapes.proofs.Literals.{thousand_is}
use Rattle.shapes.proofs.places.thousandths.Goals as goal

pub returns : goal.returns
unfolding thousandths
returns c = rw (c.round_away.ensures, c.absolute.ensures, thousand_is)
