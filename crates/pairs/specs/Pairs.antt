-- Counting pairs of nodes over sides. Definitions only.
use Rattle.std.specs.Prelude.{ℕ, zero, suc, ◌+◌, cond, ◌&&◌, ◌||◌, List, [], ◌∷◌, map, length, get_or, eqb}
use Rattle.geometry.specs.Rings.{next}
use Rattle.state.specs.State.{State, quad_nodes}

-- 1 when u and v are the pair a and b in either order, otherwise 0
unfoldable pub is_pair : ℕ → ℕ → ℕ → ℕ → ℕ
is_pair a b u v = cond ((eqb a u && eqb b v) || (eqb a v && eqb b u)) 1 0

-- f 0 + .. + f (k - 1)
unfoldable pub sum : (ℕ → ℕ) → ℕ → ℕ
sum f zero = 0
sum f (suc k) = sum f k + f k

-- Document 01's side: a pair of neighbours in a list of nodes, last and first being neighbours too. How often the pair a and b so stands.
unfoldable pub sides : ℕ → ℕ → List ℕ → ℕ
sides a b xs = sum (λ i. is_pair a b (get_or xs i 0) (get_or xs (next (length xs) i) 0)) (length xs)

unfoldable pub sides_of_all : ℕ → ℕ → List (List ℕ) → ℕ
sides_of_all a b [] = 0
sides_of_all a b (xs ∷ xss) = sides a b xs + sides_of_all a b xss

-- over the sampled loops, the quads and the remaining fronts
unfoldable pub pair_count : List (List ℕ) → State → ℕ → ℕ → ℕ
pair_count loops s a b = sides_of_all a b loops + sides_of_all a b (map quad_nodes s.quads) + sides_of_all a b s.fronts
