-- The quads found and the fronts that stay, front by front, as the code finds them. Definitions only.
use Rattle.std.specs.Prelude.{ℕ, Bool, List, map, length, take, eqb, Float}
use Rattle.state.specs.State.{Quad, joined}
use Rattle.rules.specs.Closing.{closure}

-- the quads that close the first i fronts
abbrev pub closures_of : Float → List Float → List (List ℕ) → ℕ → List Quad
closures_of limit pts fs i = joined (map (closure limit pts) (take i fs))

-- nothing closes the front
abbrev pub stays : Float → List Float → List ℕ → Bool
stays limit pts f = eqb (length (closure limit pts f)) 0
