-- `state::coordinates::wrong_coordinate` meets its contract. The invariant: what was found, or the coordinates that are left, give the answer.
use mathlib.Core.Path.{◌≡◌}
use mathlib.Core.Bool.{◌||◌}
use lib.ListN.{drop}
use Rattle.state.specs.Coordinates.{wrong_coordinate}
use Rattle.state.proofs.coordinates.wrong_coordinate.Given as goal

abbrev pub invariant-loop-x : goal.invariant-loop-x
invariant-loop-x l = (l.wrong || wrong_coordinate l.limit (drop l.x-index l.coords)) ≡ wrong_coordinate l.limit l.coords
