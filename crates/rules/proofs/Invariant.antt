-- What holds of points, quads and fronts through sampling, passes and closings, whatever was laid: demand 3's pairs are a part of it. (Its corners are in Corners.)
use mathlib.Core.Path.{◌≡◌}
use mathlib.Core.List.{List, ◌++◌, map, map-append}
use mathlib.Core.Logic.{◌⊎◌}
use Prim.Native.Nat.{ℕ, ◌+◌, ◌/◌, ◌%◌, ◌≤◌, ◌<◌}
use native.Mathlib.Omega.{arith}
use lib.ListN.{length, get_or}
use lib.Ieee.{Float}
use Rattle.state.specs.State.{Quad, quad, quad_nodes}
use Rattle.pairs.specs.Pairs.{sides_of_all}
use Rattle.pairs.proofs.Occurs.{occurs_in_all}
use Rattle.pairs.proofs.Sides.{sides-append_all}

-- a pair's count over loops and quads, without the fronts
abbrev pub laid_count : List (List ℕ) → List Quad → ℕ → ℕ → ℕ
laid_count loops quads a b = sides_of_all a b loops + sides_of_all a b (map quad_nodes quads)

-- a quad's nodes are below p
abbrev pub Below : ℕ → Quad → Type 0
Below p q = (q.a < p) × (q.b < p) × (q.c < p) × (q.d < p)

abbrev pub no_quad : Quad
no_quad = quad 0 0 0 0

pub record Good (loops : List (List ℕ)) (points : List Float) (quads : List Quad) (fronts : List (List ℕ)) : Type 0 where
  pub even : length points % 2 ≡ 0
  -- front nodes are all different, and below the points
  pub once : (a : ℕ) → occurs_in_all a fronts ≤ 1
  pub low : (a : ℕ) → length points / 2 ≤ a → occurs_in_all a fronts ≡ 0
  -- each pair is counted never or twice
  pub count : (a b : ℕ) → (laid_count loops quads a b + sides_of_all a b fronts ≡ 0) ⊎ (laid_count loops quads a b + sides_of_all a b fronts ≡ 2)
  -- two front nodes are as often neighbours in loops and quads as they are in the fronts: so a chord across a front is new
  pub own : (a b : ℕ) → 0 < occurs_in_all a fronts → 0 < occurs_in_all b fronts → laid_count loops quads a b ≡ sides_of_all a b fronts
  -- a node that is yet to come has no count
  pub fresh_left : (a b : ℕ) → length points / 2 ≤ a → laid_count loops quads a b ≡ 0
  pub fresh_right : (a b : ℕ) → length points / 2 ≤ b → laid_count loops quads a b ≡ 0
  pub quads_low : (i : ℕ) → i < length quads → Below (length points / 2) (get_or quads i no_quad)

pub laid_append : (loops : List (List ℕ)) (quads more : List Quad) (a b : ℕ) → laid_count loops (quads ++ more) a b ≡ laid_count loops quads a b + sides_of_all a b (map quad_nodes more)
laid_append loops quads more a b = rw (map-append quad_nodes quads more) (omega (arith, sides-append_all a b (map quad_nodes quads) (map quad_nodes more)))
