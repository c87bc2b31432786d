-- `geometry::sides::far_apart` is its definition.
use Rattle.geometry.proofs.Literals.{tiny_is}
use Rattle.geometry.specs.Measures.{apart}
use Rattle.geometry.proofs.sides.far_apart.Goals as goal

pub returns : goal.returns
unfolding apart
returns c = rw (← tiny_is)
