-- `geometry::rings::front_distance` meets its contract: the root of the least square is the least of the roots.
use mathlib.Core.Path.{ap, ◌∙◌}
use Rattle.float.specs.Root.{root}
use Rattle.geometry.proofs.Literals.{infinity_is, short_is}
use Rattle.geometry.proofs.Squares.{front-root}
use Rattle.geometry.proofs.rings.front_distance.Goals as goal

pub returns : goal.returns
returns g c =
    c.root.ensures ∙ ap root (rw (← infinity_is, ← short_is) c.least_square.ensures) ∙ front-root _ _ _
