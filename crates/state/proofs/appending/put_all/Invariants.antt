-- `state::appending::put_all` meets its contract. The invariant: i elements are written.
use mathlib.Core.Path.{◌≡◌}
use lib.ListN.{length, take}
use lib.Seq.{sets}
use Rattle.state.proofs.appending.put_all.Given as goal

abbrev pub invariant-loop-i : goal.invariant-loop-i
invariant-loop-i g l = (length l.buffer ≡ length l.initial.buffer) × (l.buffer ≡ sets l.initial.buffer l.at (take l.i l.more))
