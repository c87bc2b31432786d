-- The literals of the code, which MIR has by their bits, are the definitions' decimals. One law for each; float has that of 0.0, which is passed on.
use mathlib.Core.Path.{◌≡◌, refl}
use mathlib.Core.Bool.{false}
use lib.Ieee.{inf, binary64, div, of_bits, round}
use Rattle.float.specs.Helpers.{decimal}
pub use Rattle.float.proofs.Literals.{zero_is}

pub two_is : of_bits binary64 0x4000_0000_0000_0000 ≡ decimal 2 0
unfolding round of_bits
two_is = refl

pub three_is : of_bits binary64 0x4008_0000_0000_0000 ≡ decimal 3 0
unfolding round of_bits
three_is = refl

-- 1e-12
pub tiny_is : of_bits binary64 4427486594234968593 ≡ decimal 1 12
unfolding round of_bits
tiny_is = refl

-- 1e-18
pub short_is : of_bits binary64 0x3C32_725D_D1D2_43AC ≡ decimal 1 18
unfolding round of_bits
short_is = refl

-- half of 0
pub half_zero_is : div binary64 (decimal 0 0) (decimal 2 0) ≡ decimal 0 0
unfolding div round
half_zero_is = refl

-- 1.0 / 0.0
pub infinity_is : div binary64 (of_bits binary64 0x3FF0_0000_0000_0000) (of_bits binary64 0) ≡ inf false
unfolding div of_bits
infinity_is = refl
