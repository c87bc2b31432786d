-- The literals of the code that the crates below have no law for, by their bits. One law for each.
use mathlib.Core.Path.{◌≡◌, refl}
use lib.Ieee.{binary64, of_bits, round}
use Rattle.float.specs.Helpers.{decimal}

-- 0.001
pub milli_is : of_bits binary64 0x3F50624DD2F1A9FC ≡ decimal 1 3
unfolding round of_bits
milli_is = refl

-- 1000000.0
pub million_is : of_bits binary64 0x412E848000000000 ≡ decimal 1000000 0
unfolding round of_bits
million_is = refl

-- 100.0
pub hundred_is : of_bits binary64 0x4059000000000000 ≡ decimal 100 0
unfolding round of_bits
hundred_is = refl

-- 0.08715574274765817
pub limit_is : of_bits binary64 4590944653792149762 ≡ decimal 8715574274765817 17
unfolding round of_bits
limit_is = refl

-- 0.02
pub fiftieth_is : of_bits binary64 0x3F947AE147AE147B ≡ decimal 2 2
unfolding round of_bits
fiftieth_is = refl

-- 0.9
pub nine_tenths_is : of_bits binary64 0x3FECCCCCCCCCCCCD ≡ decimal 9 1
unfolding round of_bits
nine_tenths_is = refl
