-- `text::hexadecimal::bits_of` meets its contract: only a NaN differs from itself.
use mathlib.Core.Path.{◌≡◌}
use mathlib.Core.Bool.{false}
use lib.Dec.{T}
use lib.Ieee.{Float, binary64, eq, ne, to_bits}
use lib.Ieee.Compare.{differs_from_itself}
use Rattle.text.proofs.hexadecimal.bits_of.Goals as goal

nan-bits : (x : Float) → eq x x ≡ false → 0x7FF8_0000_0000_0000 ≡ to_bits binary64 x
unfolding ne to_bits
nan-bits x h = let t : T (ne x x) = rw h tt in rw (differs_from_itself x t)

pub returns : goal.returns
returns c = nan-bits _ c.if-x.false
