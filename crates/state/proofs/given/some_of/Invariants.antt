-- `state::given::some_of` meets its contract. The invariant: whether some number passed is not below n.
use mathlib.Core.Path.{◌≡◌}
use lib.Dec.{leb}
use lib.ListN.{take}
use Rattle.std.specs.List.{list_any}
use Rattle.state.proofs.given.some_of.Given as goal

abbrev pub invariant-loop-x : goal.invariant-loop-x
invariant-loop-x l = l.some ≡ list_any (λ x. leb l.n x) (take l.x-index l.numbers)
