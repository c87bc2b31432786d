use mathlib.Core.Path.{ap, ◌∙◌}
use Rattle.float.specs.Root.{root}
use Rattle.geometry.proofs.Squares.{segment_root}
use Rattle.geometry.proofs.sides.segment_distance.Goals as goal

pub returns : goal.returns
returns c = c.root.ensures ∙ ap root c.segment_square.ensures ∙ segment_root _ _ _ _
