-- `exports_geometry::fronts::pave_front_distance` meets its contract: there is a ring, or none.
use Rattle.exports_geometry.specs.Fronts.{distance_or}
use Rattle.exports_geometry.proofs.Choices.{nan_is}
use Rattle.exports_geometry.proofs.fronts.pave_front_distance.Goals as goal

pub returns-in_default : goal.returns-in_default
unfolding distance_or
returns-in_default c = rw c.in_default.ensures nan_is

pub returns : goal.returns
unfolding distance_or
returns c = let k = c.in-Some.ensures in rw (k.0, ← k.1, ← k.2) c.front_distance.ensures
