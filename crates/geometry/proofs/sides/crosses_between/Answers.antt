use Rattle.geometry.proofs.Choices.{ray_beside, ray_between}
use Rattle.geometry.proofs.sides.crosses_between.Goals as goal

pub returns-then-below_a-below_b : goal.returns-then-below_a-below_b
returns-then-below_a-below_b c = ray_beside _ _ _ _ _ c.requires c.if-below_a-below_b.true

pub returns : goal.returns
returns c =
    ray_between _ _ _ _ _ c.requires c.if-below_a-below_b.false
