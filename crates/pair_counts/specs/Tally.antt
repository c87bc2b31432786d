-- Each node of a list stands there twice; so for the higher nodes at each lower node. Definitions only.
use Rattle.std.specs.Prelude.{ℕ, ◌+◌, Bool, true, cond, ◌&&◌, List, [], ◌∷◌, length, eqb}
use Rattle.state.specs.Limits.{point_limit}
use Rattle.pair_counts.specs.Twice.{every}
use Rattle.pair_counts.specs.Chains.{highs_at}

-- how often a node stands in a list
unfoldable pub times : ℕ → List ℕ → ℕ
times v [] = 0
times v (x ∷ xs) = cond (eqb v x) 1 0 + times v xs

-- p holds of each
unfoldable pub every_of : (ℕ → Bool) → List ℕ → Bool
every_of p [] = true
every_of p (x ∷ xs) = p x && every_of p xs

unfoldable pub each_twice : List ℕ → Bool
each_twice xs = every_of (λ v. eqb (times v xs) 2) xs

-- of all sides, by their lower and higher nodes
unfoldable pub sides_twice : List ℕ → List ℕ → Bool
sides_twice lows highs = every (λ u. each_twice (highs_at lows highs u (length lows))) point_limit
