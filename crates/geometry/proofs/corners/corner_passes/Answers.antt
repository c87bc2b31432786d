use Rattle.geometry.specs.Measures.{corner_passes}
use Rattle.geometry.proofs.corners.corner_passes.Goals as goal

pub returns-then-is_finite : goal.returns-then-is_finite
unfolding corner_passes
returns-then-is_finite c = rw (← c.corner_value-v.ensures, ← c.is_finite.ensures, c.if-is_finite.true)

pub returns : goal.returns
unfolding corner_passes
returns c = rw (← c.corner_value-v.ensures, ← c.is_finite.ensures, c.if-is_finite.false)
