-- The worked values of specs/Values.antt are what the definitions give.
use Rattle.std.specs.Prelude.{◌≡◌, refl, true}
use Rattle.std.specs.Float.Ieee.{of_bits, to_bits, neg, round}
use Rattle.float.specs.Helpers.{round_away}
use Rattle.float.specs.Root.{root}
use Rattle.float.specs.Values.{rows, all_agree}

pub values_agree : all_agree rows ≡ true
unfolding all_agree root round_away round of_bits to_bits neg
values_agree = refl
