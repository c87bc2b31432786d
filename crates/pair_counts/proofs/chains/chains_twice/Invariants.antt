-- `pair_counts::chains::chains_twice` meets its contract. The invariant: the chains of the nodes passed pass, and the tally is zeros.
use mathlib.Core.Path.{◌≡◌}
use mathlib.Core.Bool.{Bool, true}
use mathlib.Core.List.{List}
use Prim.Native.Nat.{ℕ}
use lib.ListN.{get_or, replicate}
use Rattle.state.specs.Limits.{point_limit}
use Rattle.pair_counts.specs.Twice.{every}
use Rattle.pair_counts.specs.Chains.{chain}
use Rattle.pair_counts.specs.Tally.{each_twice}
use Rattle.pair_counts.proofs.chains.chains_twice.Given as goal

-- the chain of node u passes
abbrev pub passes : List ℕ → List ℕ → List ℕ → ℕ → Bool
passes highs behind first u = each_twice (chain behind highs (get_or first u 0))

abbrev pub invariant-loop-place : goal.invariant-loop-place
invariant-loop-place l = (l.tally ≡ replicate point_limit 0) × (every (passes l.highs l.behind l.first) l.place-index ≡ true)
