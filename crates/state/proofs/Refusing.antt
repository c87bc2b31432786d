-- Laws on refusals: no number is 0, so a result is a refusal or none by its number.
use mathlib.Core.Path.{◌≡◌}
use native.Mathlib.Omega.{arith}
use Rattle.state.specs.declared.refusal.Refusal.{Refusal}
use Rattle.state.specs.declared.refusal.Refusal.TheVariants.{Shape, Size, Options, OuterLoop, Coordinate, Area, FewPoints, ManyNodes, NoFront, Full, Row, Fronts, FanFront, State, Centre, Corner}
use Rattle.state.specs.Refusals.{number}

pub number_nonzero : (e : Refusal) → number e ≡ 0 → ⊥
number_nonzero Shape z = omega arith
number_nonzero Size z = omega arith
number_nonzero Options z = omega arith
number_nonzero OuterLoop z = omega arith
number_nonzero Coordinate z = omega arith
number_nonzero Area z = omega arith
number_nonzero FewPoints z = omega arith
number_nonzero ManyNodes z = omega arith
number_nonzero NoFront z = omega arith
number_nonzero Full z = omega arith
number_nonzero Row z = omega arith
number_nonzero Fronts z = omega arith
number_nonzero FanFront z = omega arith
number_nonzero State z = omega arith
number_nonzero Centre z = omega arith
number_nonzero Corner z = omega arith
