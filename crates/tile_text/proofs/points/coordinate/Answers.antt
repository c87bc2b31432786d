-- `tile_text::points::coordinate` meets its contract.
use Rattle.tile_text.proofs.Pointing.{nan_above, number_below}
use Rattle.tile_text.proofs.points.coordinate.Goals as goal

pub returns-then-bits-gt9218868437227405312 : goal.returns-then-bits-gt9218868437227405312
returns-then-bits-gt9218868437227405312 c = λ h. absurd (nan_above _ c.if-bits-gt9218868437227405312.true h)

pub float_from_bits-result : goal.float_from_bits-result
float_from_bits-result c = number_below _ c.if-bits-gt9218868437227405312.false
