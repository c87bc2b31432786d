-- Rings of nodes in which each pair is counted never or twice, as a test. Definitions only.
use Rattle.std.specs.Prelude.{ℕ, zero, suc, ◌≡◌, Bool, true, ◌&&◌, ◌⊎◌, List, [], ◌∷◌, length, get_or, eqb}
use Rattle.geometry.specs.Rings.{next}
use Rattle.pairs.specs.Pairs.{sides_of_all}

-- p holds at each place below k
unfoldable pub every : (ℕ → Bool) → ℕ → Bool
every p zero = true
every p (suc k) = every p k && p k

-- p holds of the two nodes of each side of a ring, last and first being neighbours too; of each ring
unfoldable pub every_side : (ℕ → ℕ → Bool) → List ℕ → Bool
every_side p xs = every (λ i. p (get_or xs i 0) (get_or xs (next (length xs) i) 0)) (length xs)

unfoldable pub every_side_of_all : (ℕ → ℕ → Bool) → List (List ℕ) → Bool
every_side_of_all p [] = true
every_side_of_all p (xs ∷ xss) = every_side p xs && every_side_of_all p xss

-- the pair of each side is counted twice; a pair that is no side is counted never
unfoldable pub all_twice : List (List ℕ) → Bool
all_twice rings = every_side_of_all (λ a b. eqb (sides_of_all a b rings) 2) rings

-- So: the test is true exactly when each pair of nodes is counted 0 or 2 times. proofs/Twice.antt proves it.
pub record Twice : Type 0 where
  pub pairs : (rings : List (List ℕ)) → all_twice rings ≡ true → (a b : ℕ) → (sides_of_all a b rings ≡ 0) ⊎ (sides_of_all a b rings ≡ 2)
  pub found : (rings : List (List ℕ)) → ((a b : ℕ) → (sides_of_all a b rings ≡ 0) ⊎ (sides_of_all a b rings ≡ 2)) → all_twice rings ≡ true
