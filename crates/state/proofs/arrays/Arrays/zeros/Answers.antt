-- `state::arrays::Arrays::zeros` meets its contract.
use mathlib.Core.Path.{refl, ap}
use lib.ListN.{replicate}
use Rattle.float.proofs.Literals.{zero_is}
use Rattle.state.specs.Limits.{points_length}
use Rattle.state.proofs.Zeros.{same_held}
use Rattle.state.proofs.arrays.Arrays.zeros.Goals as goal

pub returns : goal.returns
returns c = same_held (ap (replicate points_length) zero_is) refl refl refl refl
