-- An order of fronts in an array, as the code has it. Definitions only.
use Rattle.std.specs.Prelude.{ℕ, List, [], ◌∷◌, ◌++◌, length, get_or, take, drop, Float}
use Rattle.std.specs.Float.{nan}
use Rattle.geometry.specs.Rings.{node_ring}
use Rattle.geometry.specs.Measures.{front_length}
use Rattle.state.specs.State.{cut}
use Rattle.rules.specs.Passes.{ordered}

-- the length of front k, from a list of the lengths
abbrev pub length_in : List Float → ℕ → Float
length_in lengths k = get_or lengths k nan

-- v put into a list at a place
abbrev pub put_in : List ℕ → ℕ → ℕ → List ℕ
put_in order at v = take at order ++ v ∷ drop at order

-- the length of front k, from the points, the nodes of all fronts and how many each has
abbrev pub length_of : List Float → List ℕ → List ℕ → ℕ → Float
length_of points nodes sizes k = front_length (node_ring points (get_or (cut sizes nodes) k []))

-- all fronts in order
abbrev pub order_of : List Float → List ℕ → List ℕ → List ℕ
order_of points nodes sizes = ordered (length_of points nodes sizes) (length sizes)
