-- `geometry::corners::least_corner` meets its contract. Each side's length serves the corners at both of its ends.
use mathlib.Core.Path.{◌∙◌}
use Rattle.geometry.specs.Measures.{least_corner}
use Rattle.geometry.proofs.Literals.{infinity_is}
use Rattle.geometry.proofs.Flip.{length_flip}
use Rattle.geometry.proofs.corners.least_corner.Goals as goal

pub corner_value-requires : goal.corner_value-requires
corner_value-requires c =
    (c.side_length-da.ensures ∙ length_flip _ _, c.side_length-ab.ensures)

pub corner_value-requires-2 : goal.corner_value-requires-2
corner_value-requires-2 c =
    (c.side_length-ab.ensures ∙ length_flip _ _, c.side_length-bc.ensures)

pub corner_value-requires-3 : goal.corner_value-requires-3
corner_value-requires-3 c =
    (c.side_length-bc.ensures ∙ length_flip _ _, c.side_length-cd.ensures)

pub corner_value-requires-4 : goal.corner_value-requires-4
corner_value-requires-4 c =
    (c.side_length-cd.ensures ∙ length_flip _ _, c.side_length-da.ensures)

pub returns : goal.returns
unfolding least_corner
returns c =
    rw (c.lesser.ensures, c.corner_value-4.ensures, c.lesser-third.ensures, c.corner_value-3.ensures, c.lesser-second.ensures, c.corner_value-2.ensures, c.lesser-first.ensures, c.corner_value.ensures, infinity_is)
