use Rattle.geometry.proofs.Choices.{both_sides, one_side}
use Rattle.geometry.proofs.sides.segments_cross.Goals as goal

pub returns-then-far_apart : goal.returns-then-far_apart
returns-then-far_apart c =
    both_sides _ _ _ _ _ _ _ c.turn_of.ensures c.turn_of-2.ensures c.far_apart.ensures _ _ _ c.if-far_apart.true c.turn_of-then-far_apart.ensures c.turn_of-then-far_apart-2.ensures c.far_apart-then-far_apart.ensures

pub returns : goal.returns
returns c =
    one_side _ _ _ _ _ _ _ c.turn_of.ensures c.turn_of-2.ensures c.far_apart.ensures c.if-far_apart.false
