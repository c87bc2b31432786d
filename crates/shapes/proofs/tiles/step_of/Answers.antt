-- `shapes::tiles::step_of` meets its contract.
use native.Mathlib.Omega.{arith}
use Rattle.float.proofs.Literals.{one_is}
use Rattle.shapes.proofs.Literals.{ten_is, half_is}
use Rattle.shapes.proofs.Numbers.{step_is}
use Rattle.shapes.proofs.tiles.step_of.Goals as goal

pub returns : goal.returns
returns c =
    let s = step_is c.args.limit c.args.v _ _ _ _ one_is ten_is half_is c.round_away-step.ensures in
    omega (arith, c.min.ensures)
