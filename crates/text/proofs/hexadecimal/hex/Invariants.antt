-- `text::hexadecimal::hex` meets its contract. The invariant: what is left, behind the value so far, spells what the whole spells.
use mathlib.Core.Path.{◌≡◌}
use Prim.Native.Nat.{◌^◌, ◌<◌}
use lib.ListN.{drop}
use Rattle.text.specs.Hex.{hex_spelled}
use Rattle.text.proofs.hexadecimal.hex.Given as goal

abbrev pub invariant-loop-digit : goal.invariant-loop-digit
invariant-loop-digit l = (l.value < 16 ^ l.digit-index) × (hex_spelled 0 l.digit-items ≡ hex_spelled l.value (drop l.digit-index l.digit-items))
