use Rattle.geometry.proofs.Choices.{to_end, to_foot}
use Rattle.geometry.proofs.sides.segment_square.Goals as goal

pub returns-then-length2-short : goal.returns-then-length2-short
returns-then-length2-short c = to_end _ _ _ _ c.if-length2-short.true

pub returns : goal.returns
returns c =
    to_foot _ _ _ _ _ c.if-length2-short.false c.clamp_unit-t.ensures
