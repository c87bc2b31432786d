-- `default` of `Options` meets its contract: the constants' bits are those of document 01's numbers.
use mathlib.Core.Path.{refl}
use lib.Ieee.{of_bits, round}
use Rattle.input.specs.Limit.{default_limit}
use Rattle.input.proofs.OptionsDefault.default.Goals as goal

pub returns : goal.returns
unfolding round of_bits default_limit
returns c = refl
