-- `exports_geometry::fronts::pave_in_front` meets its contract: there is a ring, or none.
use mathlib.Core.Path.{refl}
use Rattle.exports_geometry.specs.Fronts.{within_or_not}
use Rattle.exports_geometry.proofs.fronts.pave_in_front.Goals as goal

pub returns-in_default : goal.returns-in_default
unfolding within_or_not
returns-in_default c = rw c.in_default.ensures refl

pub returns : goal.returns
unfolding within_or_not
returns c = let k = c.in-Some.ensures in rw (k.0, ← k.1, ← k.2) c.in_polygon.ensures
