-- The literals of the code that the crates below have no law for, by their bits. One law for each.
use mathlib.Core.Path.{◌≡◌, refl}
use mathlib.Core.Bool.{true, false}
use lib.Ieee.{inf, binary64, div, neg, of_bits, of_int, round}
use lib.IntN.{pos}

-- -1.0 / 0.0
pub minus_infinity_is : div binary64 (neg (of_bits binary64 0x3FF0_0000_0000_0000)) (of_bits binary64 0) ≡ inf true
unfolding div neg of_bits
minus_infinity_is = refl

-- 12.0
pub twelve_is : of_bits binary64 0x4028_0000_0000_0000 ≡ of_int binary64 (pos 12)
unfolding round of_bits of_int
twelve_is = refl

-- f64::INFINITY and f64::NEG_INFINITY
pub inf_is : of_bits binary64 0x7FF0_0000_0000_0000 ≡ inf false
unfolding of_bits
inf_is = refl

pub minus_inf_is : of_bits binary64 0xFFF0_0000_0000_0000 ≡ inf true
unfolding of_bits
minus_inf_is = refl
