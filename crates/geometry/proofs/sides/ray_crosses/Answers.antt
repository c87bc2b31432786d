-- `geometry::sides::ray_crosses` meets its contract: the tests that it hands on are those of the two ends.
use mathlib.Core.Path.{refl}
use Rattle.geometry.proofs.sides.ray_crosses.Goals as goal

pub crosses_between-requires : goal.crosses_between-requires
crosses_between-requires c = (refl, refl)
