-- The answer where a test fails.
use mathlib.Core.Path.{◌≡◌, refl}
use lib.Ieee.{nan, binary64, div, of_bits}

-- f64::NAN
pub nan_is : of_bits binary64 0x7FF8_0000_0000_0000 ≡ nan
unfolding of_bits
nan_is = refl

-- 0.0 / 0.0
pub zero_by_zero : div binary64 (of_bits binary64 0) (of_bits binary64 0) ≡ nan
unfolding div of_bits
zero_by_zero = refl
