-- `planning::sides::measure_sides` meets its contract: a side's length is the root of its square.
use mathlib.Core.Path.{refl}
use Rattle.planning.specs.Backwards.{read_ring}
use Rattle.planning.proofs.Measuring.{length_is}
use Rattle.planning.proofs.sides.measure_sides.Goals as goal

pub returns : goal.returns
returns c =
    let square-sides = c.square_sides in
    let r = read_ring c.args.ring in
    record {
      size_is = refl;
      lengths_are = λ i g. length_is r i _ _ (square-sides.ensures.0 i g) (c.take_roots.ensures i g);
      margins_are = square-sides.ensures.1;
    }
