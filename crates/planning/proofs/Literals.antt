-- The literals of the code, which MIR has by their bits, are the definitions' decimals. One law for each.
use mathlib.Core.Path.{◌≡◌, refl}
use lib.Ieee.{binary64, of_bits, round}
use Rattle.float.specs.Helpers.{decimal}

-- 0.001
pub milli_is : of_bits binary64 0x3F50_624D_D2F1_A9FC ≡ decimal 1 3
unfolding round of_bits
milli_is = refl

-- 0.6
pub small_is : of_bits binary64 0x3FE3333333333333 ≡ decimal 6 1
unfolding round of_bits
small_is = refl
