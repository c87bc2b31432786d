-- The number of each refusal, and a result of the code as the definitions have it. Definitions only.
use Rattle.std.specs.Prelude.{ℕ, Result, Ok, Err}
use Rattle.state.specs.declared.refusal.Refusal.{Refusal}
use Rattle.state.specs.declared.refusal.Refusal.TheVariants.{Shape, Size, Options, OuterLoop, Coordinate, Area, FewPoints, ManyNodes, NoFront, Full, Row, Fronts, FanFront, State, Centre, Corner}
use Rattle.state.specs.Outcome.{Outcome, refused, gives}

abbrev pub number : Refusal → ℕ
number Shape = 1
number Size = 2
number Options = 3
number OuterLoop = 4
number Coordinate = 5
number Area = 6
number FewPoints = 7
number ManyNodes = 10
number NoFront = 20
number Full = 21
number Row = 22
number Fronts = 23
number FanFront = 24
number State = 25
number Centre = 26
number Corner = 27

abbrev pub answered : {A : Type 0} → Result A Refusal → Outcome A
answered (Ok x) = gives x
answered (Err e) = refused (number e)

-- the same where a refusal is any number
abbrev pub told : {A : Type 0} → Result A ℕ → Outcome A
told (Ok x) = gives x
told (Err n) = refused n

-- the number of a refusal, and 0 where there is none
abbrev pub refusal_of : {A : Type 0} → Result A Refusal → ℕ
refusal_of (Ok x) = 0
refusal_of (Err e) = number e
