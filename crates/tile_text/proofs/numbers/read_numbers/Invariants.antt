-- `tile_text::numbers::read_numbers` meets its contract. The invariant: where the text from `at` on is the writing of numbers, what is left of it is the writing of the last of them. The measure is the bytes left.
use mathlib.Core.Path.{◌≡◌}
use Prim.Native.Nat.{◌-◌}
use lib.ListN.{length}
use Rattle.tile_text.proofs.Numbering.{Left}
use Rattle.tile_text.proofs.numbers.read_numbers.Given as goal

abbrev pub invariant-loop-next : goal.invariant-loop-next
invariant-loop-next l = (length l.nodes ≡ length l.initial.nodes) × Left l.text l.at l.from l.initial.nodes l.nodes l.next l.count

abbrev pub decreases-loop-next : goal.decreases-loop-next
decreases-loop-next l = length l.text - l.next
