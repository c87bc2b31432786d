-- The literals of the code that the crates below have no law for, by their bits. One law for each.
use mathlib.Core.Path.{◌≡◌, refl}
use mathlib.Core.Bool.{false}
use lib.Ieee.{inf, nan, binary64, div, of_bits, round}
use Rattle.float.specs.Helpers.{decimal}

-- 1000.0
pub thousand_is : of_bits binary64 0x408F_4000_0000_0000 ≡ decimal 1000 0
unfolding round of_bits
thousand_is = refl

-- 10.0
pub ten_is : of_bits binary64 0x4024_0000_0000_0000 ≡ decimal 10 0
unfolding round of_bits
ten_is = refl

-- 0.5
pub half_is : of_bits binary64 0x3FE0_0000_0000_0000 ≡ decimal 5 1
unfolding round of_bits
half_is = refl

-- f64::INFINITY
pub infinity_is : of_bits binary64 0x7FF0_0000_0000_0000 ≡ inf false
unfolding of_bits
infinity_is = refl

-- f64::NAN
pub nan_is : of_bits binary64 0x7FF8_0000_0000_0000 ≡ nan
unfolding of_bits
nan_is = refl

-- 0.0 / 0.0
pub zero_by_zero : div binary64 (of_bits binary64 0) (of_bits binary64 0) ≡ nan
unfolding div of_bits
zero_by_zero = refl
