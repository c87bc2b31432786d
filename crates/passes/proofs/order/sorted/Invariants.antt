-- `passes::order::sorted` meets its contract. The invariant: the first i fronts are in order in the first i places.
use mathlib.Core.Path.{◌≡◌}
use lib.ListN.{length, take}
use Rattle.state.specs.Limits.{front_limit}
use Rattle.rules.specs.Passes.{ordered}
use Rattle.passes.specs.Order.{length_in}
use Rattle.passes.proofs.order.sorted.Given as goal

abbrev pub invariant-loop-i : goal.invariant-loop-i
invariant-loop-i l = (length l.order ≡ front_limit) × (take l.i l.order ≡ ordered (length_in l.lengths) l.i)
