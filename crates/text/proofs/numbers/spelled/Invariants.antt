-- `text::numbers::spelled` meets its contract. The invariant: what is left, behind the value so far, spells what the whole spells. The value has at most a digit for each byte passed.
use mathlib.Core.Path.{◌≡◌}
use Prim.Native.Nat.{◌<◌, ◌^◌}
use lib.ListN.{drop}
use Rattle.text.specs.Number.{spelling}
use Rattle.text.proofs.numbers.spelled.Given as goal

abbrev pub invariant-loop-digit : goal.invariant-loop-digit
invariant-loop-digit l = (l.value < 10 ^ l.digit-index) × (spelling 0 l.digits ≡ spelling l.value (drop l.digit-index l.digits))
