-- Chains of sides by their lower node. A place is held as one more than its number, and 0 ends a chain. Definitions only.
use Rattle.std.specs.Prelude.{ℕ, zero, suc, ◌-◌, ◌≤◌, ◌<◌, ◌≡◌, cond, List, [], ◌∷◌, length, get_or, eqb}
use Rattle.state.specs.Limits.{point_limit}
use Rattle.pair_counts.specs.Sides.{side_limit}

-- the higher nodes of those of the first n sides whose lower node is u, the last side first
unfoldable pub highs_at : List ℕ → List ℕ → ℕ → ℕ → List ℕ
highs_at lows highs u zero = []
highs_at lows highs u (suc n) = cond (eqb (get_or lows n 0) u) (get_or highs n 0 ∷ highs_at lows highs u n) (highs_at lows highs u n)

-- the higher nodes along the chain from `at`, at most k of them
unfoldable pub along : List ℕ → List ℕ → ℕ → ℕ → List ℕ
along behind highs zero at = []
along behind highs (suc k) at = cond (eqb at 0) [] (get_or highs (at - 1) 0 ∷ along behind highs k (get_or behind (at - 1) 0))

-- each place behind is lower than the one before, so `at` of them are enough
unfoldable pub chain : List ℕ → List ℕ → ℕ → List ℕ
chain behind highs at = along behind highs at at

-- the first n sides are chained: `first` has the place where each node's chain starts, `behind` the place behind each place
pub record Linked (lows behind first : List ℕ) (n : ℕ) : Type 0 where
  pub within : (u : ℕ) → u < point_limit → get_or first u 0 ≤ n
  pub falls : (p : ℕ) → p < n → get_or behind p 0 ≤ p
  pub chains : (highs : List ℕ) (u : ℕ) → u < point_limit → chain behind highs (get_or first u 0) ≡ highs_at lows highs u n

-- what a function that goes along the chain from `at` needs
pub record Walk (highs behind : List ℕ) (at : ℕ) : Type 0 where
  pub within : at ≤ length highs
  pub few : length highs ≤ side_limit
  pub long : length highs ≤ length behind
  pub falls : (p : ℕ) → p < length highs → get_or behind p 0 ≤ p
  pub nodes : (p : ℕ) → p < length highs → get_or highs p 0 < point_limit
