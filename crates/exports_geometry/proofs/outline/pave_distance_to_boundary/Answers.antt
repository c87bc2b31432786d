-- `exports_geometry::outline::pave_distance_to_boundary` meets its contract: there is an outline, or none.
use Rattle.exports_geometry.specs.Outline.{boundary_or}
use Rattle.exports_geometry.proofs.Choices.{nan_is}
use Rattle.exports_geometry.proofs.outline.pave_distance_to_boundary.Goals as goal

pub returns-in_default : goal.returns-in_default
unfolding boundary_or
returns-in_default c = rw c.in_default.ensures nan_is

pub returns : goal.returns
unfolding boundary_or
returns c = let k = c.in-Some.ensures in rw (k.0, ← k.1, ← k.2) c.distance_to_boundary.ensures
