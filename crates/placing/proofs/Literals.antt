-- The literal of the code, which MIR has by its bits, is the definitions' decimal.
use mathlib.Core.Path.{◌≡◌, refl}
use lib.Ieee.{binary64, of_bits, round}
use Rattle.float.specs.Helpers.{decimal}

-- 0.5
pub half_is : of_bits binary64 0x3FE0000000000000 ≡ decimal 5 1
unfolding round of_bits
half_is = refl
