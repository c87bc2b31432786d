-- `passes::order::lengths_of` meets its contract. The invariant: the lengths of the fronts passed are measured, and `start` is where the next front stands.
use mathlib.Core.Path.{◌≡◌}
use Prim.Native.Nat.{ℕ, ◌<◌}
use lib.ListN.{length, take}
use Rattle.geometry.specs.Domain.{sum_of}
use Rattle.state.specs.Limits.{front_limit}
use Rattle.passes.specs.Order.{length_in, length_of}
use Rattle.passes.proofs.order.lengths_of.Given as goal

abbrev pub invariant-loop-i : goal.invariant-loop-i
invariant-loop-i l =
    (l.start ≡ sum_of (take l.i l.fronts.lengths.now)) × (length l.lengths ≡ front_limit)
    × ((k : ℕ) → k < l.i → length_in l.lengths k ≡ length_of l.fronts.points.now l.fronts.nodes.now l.fronts.lengths.now k)
