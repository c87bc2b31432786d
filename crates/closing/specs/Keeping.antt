-- Fronts kept by their marks, front by front, as the code does it. Definitions only.
use Rattle.std.specs.Prelude.{ℕ, zero, suc, Bool, false, cond, List, [], ◌∷◌, ◌++◌, map, length, eqb, get_or}
use Rattle.closing_search.specs.declared.front.Closure.{Closure}
use Rattle.closing_search.specs.Closures.{closure_quads}

-- of the first i fronts, those that are marked
unfoldable pub kept_by : List Bool → List (List ℕ) → ℕ → List (List ℕ)
kept_by marks fs zero = []
kept_by marks fs (suc i) = kept_by marks fs i ++ cond (get_or marks i false) (get_or fs i [] ∷ []) []

-- which of these closures are `Kept`
abbrev pub marks_of : List Closure → List Bool
marks_of cs = map (λ c. eqb (length (closure_quads c)) 0) cs
