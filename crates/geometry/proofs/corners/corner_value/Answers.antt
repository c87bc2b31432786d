use Rattle.geometry.specs.Measures.{corner_value}
use Rattle.geometry.proofs.corners.corner_value.Goals as goal

pub returns : goal.returns
unfolding corner_value
returns c =
    rw (c.requires.0, c.requires.1)
