-- `text::writer::places` meets its contract. The invariant: the digits counted and those of the rest are one more than those of the number. The measure is the rest.
use mathlib.Core.Path.{◌≡◌}
use Prim.Native.Nat.{◌+◌, ◌<◌, ◌^◌}
use lib.ListN.{length}
use Rattle.text.specs.Decimal.{decimal_text}
use Rattle.text.proofs.writer.places.Given as goal

abbrev pub invariant-loop-rest : goal.invariant-loop-rest
invariant-loop-rest l = (l.rest < 2 ^ 64) × (l.k + length (decimal_text l.rest) ≡ length (decimal_text l.n) + 1)

abbrev pub decreases-loop-rest : goal.decreases-loop-rest
decreases-loop-rest l = l.rest
