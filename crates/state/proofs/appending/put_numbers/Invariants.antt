-- `state::appending::put_numbers` meets its contract. The invariant: i numbers are written.
use mathlib.Core.Path.{◌≡◌}
use lib.Seq.{sets}
use Rattle.state.specs.State.{numbered}
use Rattle.state.proofs.appending.put_numbers.Given as goal

abbrev pub invariant-loop-i : goal.invariant-loop-i
invariant-loop-i l = l.node-items ≡ sets l.initial.node-items 0 (numbered l.first l.i)
