-- The literals of the code that the crates below have no law for, by their bits. One law for each.
use mathlib.Core.Path.{◌≡◌, refl}
use lib.Ieee.{binary64, of_bits, round}
use Rattle.float.specs.Helpers.{decimal}

-- 1e9
pub billion_is : of_bits binary64 0x41CD_CD65_0000_0000 ≡ decimal 1000000000 0
unfolding round of_bits
billion_is = refl
