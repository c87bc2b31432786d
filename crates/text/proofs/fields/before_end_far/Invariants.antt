-- `text::fields::before_end_far` meets its contract. The invariant: no byte of the pairs before ends a field.
use mathlib.Core.Path.{◌≡◌}
use Prim.Native.Nat.{◌+◌, ◌*◌}
use lib.ListN.{length, drop}
use Rattle.text.specs.Fields.{field}
use Rattle.text.proofs.fields.before_end_far.Given as goal

abbrev pub invariant-loop-i : goal.invariant-loop-i
invariant-loop-i l = length (field l.bytes) ≡ l.i * 16 + length (field (drop (l.i * 16) l.bytes))
