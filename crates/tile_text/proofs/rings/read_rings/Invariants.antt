-- `tile_text::rings::read_rings` meets its contract. The invariant: where the text from `at` on is the writing of lines, what is left of it is the writing of the last of them. The measure is the bytes left.
use mathlib.Core.Path.{◌≡◌}
use Prim.Native.Nat.{◌-◌}
use lib.ListN.{length}
use Rattle.tile_text.proofs.Ringing.{Left}
use Rattle.tile_text.proofs.rings.read_rings.Given as goal

abbrev pub invariant-loop-next : goal.invariant-loop-next
invariant-loop-next l =
    (length l.nodes ≡ length l.initial.nodes) × (length l.lengths ≡ length l.initial.lengths) × Left l.text l.at l.letter l.initial.nodes l.nodes l.initial.lengths l.lengths l.next l.count l.stored

abbrev pub decreases-loop-next : goal.decreases-loop-next
decreases-loop-next l = length l.text - l.next
