-- `job_text::loops::read_loop` meets its contract. The invariant: what is left of the text gives the rest of the loop.
use mathlib.Core.Path.{◌≡◌}
use Prim.Native.Nat.{◌-◌}
use lib.ListN.{length}
use Rattle.job_text.proofs.Following.{Left}
use Rattle.job_text.proofs.loops.read_loop.Given as goal

abbrev pub invariant-loop-line : goal.invariant-loop-line
invariant-loop-line l = (length l.coords ≡ length l.initial.coords) × Left l.text l.at l.pairs l.initial.coords l.coords l.next l.count

abbrev pub decreases-loop-line : goal.decreases-loop-line
decreases-loop-line l = length l.text - l.next
