-- The sides of rings as lists of their lower and their higher nodes. Definitions only.
use Rattle.std.specs.Prelude.{ℕ, zero, suc, cond, List, [], ◌∷◌, ◌++◌, length, get_or, ltb}
use Rattle.geometry.specs.Rings.{next}

-- at most so many sides: 2,048 of loops, 16,384 of quads and 2,048 of fronts
abbrev pub side_limit : ℕ
side_limit = 20480

-- the lower and the higher of two nodes
unfoldable pub lower : ℕ → ℕ → ℕ
lower a b = cond (ltb b a) b a

unfoldable pub higher : ℕ → ℕ → ℕ
higher a b = cond (ltb b a) a b

-- f 0, .., f (k - 1)
unfoldable pub listed : (ℕ → ℕ) → ℕ → List ℕ
listed f zero = []
listed f (suc k) = listed f k ++ (f k ∷ [])

-- f of the two nodes of each side of a ring, last and first being neighbours too; of each ring
unfoldable pub ends : (ℕ → ℕ → ℕ) → List ℕ → List ℕ
ends f xs = listed (λ i. f (get_or xs i 0) (get_or xs (next (length xs) i) 0)) (length xs)

unfoldable pub ends_of_all : (ℕ → ℕ → ℕ) → List (List ℕ) → List ℕ
ends_of_all f [] = []
ends_of_all f (xs ∷ xss) = ends f xs ++ ends_of_all f xss
