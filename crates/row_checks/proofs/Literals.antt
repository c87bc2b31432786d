-- The literals of the code that the crates below have no law for, by their bits. One law for each.
use mathlib.Core.Path.{◌≡◌, refl}
use lib.Ieee.{binary64, of_bits, round}
use Rattle.float.specs.Helpers.{decimal}

-- 0.25
pub quarter_is : of_bits binary64 0x3FD0_0000_0000_0000 ≡ decimal 25 2
unfolding round of_bits
quarter_is = refl

-- 0.2
pub fifth_is : of_bits binary64 0x3FC9_9999_9999_999A ≡ decimal 2 1
unfolding round of_bits
fifth_is = refl

-- 1e-9
pub nano_is : of_bits binary64 0x3E11_2E0B_E826_D695 ≡ decimal 1 9
unfolding round of_bits
nano_is = refl

-- 0.05
pub twentieth_is : of_bits binary64 0x3FA9_9999_9999_999A ≡ decimal 5 2
unfolding round of_bits
twentieth_is = refl
