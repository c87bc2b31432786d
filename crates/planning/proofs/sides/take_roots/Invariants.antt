-- `planning::sides::take_roots` meets its contract. The invariant: the numbers passed are roots and the others as they were.
use mathlib.Core.Path.{◌≡◌}
use Prim.Native.Nat.{ℕ, ◌<◌, ◌≤◌}
use lib.Ieee.{nan}
use lib.ListN.{get_or}
use Rattle.float.specs.Root.{root}
use Rattle.planning.proofs.sides.take_roots.Given as goal

abbrev pub invariant-loop-x : goal.invariant-loop-x
invariant-loop-x l =
    ((k : ℕ) → l.x-index ≤ k → k < l.x-index-end → get_or l.x-items k nan ≡ get_or l.initial.x-items k nan)
    × ((k : ℕ) → k < l.x-index → get_or l.x-items k nan ≡ root (get_or l.initial.x-items k nan))
