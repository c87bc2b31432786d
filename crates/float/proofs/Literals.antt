-- The literals of the code, which MIR has by their bits, are the definitions' decimals. One law for each.
use Rattle.std.proofs.Common.{◌≡◌, refl}
use lib.Ieee.{binary64, of_bits, round}
use Rattle.float.specs.Helpers.{decimal}

pub zero_is : of_bits binary64 0 ≡ decimal 0 0
unfolding round of_bits
zero_is = refl

pub one_is : of_bits binary64 0x3FF0_0000_0000_0000 ≡ decimal 1 0
unfolding round of_bits
one_is = refl
