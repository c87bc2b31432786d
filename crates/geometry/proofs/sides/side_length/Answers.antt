use Rattle.geometry.specs.Measures.{side_length}
use Rattle.geometry.proofs.sides.side_length.Goals as goal

pub returns : goal.returns
unfolding side_length
returns c = c.root.ensures
