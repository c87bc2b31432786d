-- `job_text::loops::read_holes` meets its contract. The invariant: what is left of the text, stored behind what was read, gives the whole.
use mathlib.Core.Path.{◌≡◌}
use Prim.Native.Nat.{◌+◌, ◌-◌, ◌≤◌}
use lib.ListN as lists
use Rattle.job_text.specs.Answers.{holes_at, stored, storing}
use Rattle.job_text.proofs.loops.read_holes.Given as goal

abbrev pub invariant-loop-next : goal.invariant-loop-next
invariant-loop-next l =
    (l.next ≤ lists.length l.text) × (l.pairs ≤ l.next) × (l.loops ≤ l.next + 1) × (lists.length l.coords ≡ lists.length l.initial.coords) × (lists.length l.loop_lengths ≡ lists.length l.initial.loop_lengths)
    × (storing (stored l.initial.coords l.initial.loop_lengths l.outer 1) (holes_at l.text l.at) ≡ storing (stored l.coords l.loop_lengths l.pairs l.loops) (holes_at l.text l.next))

abbrev pub decreases-loop-next : goal.decreases-loop-next
decreases-loop-next l = lists.length l.text - l.next
