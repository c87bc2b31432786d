-- `float::absolute` meets its contract: std's definition is this one.
use Rattle.std.proofs.Common.{◌≡◌, refl, false, ◌∙◌}
use lib.Ieee.{Float, nan, inf, fin}
use Rattle.std.specs.Float.{float_with_sign}
use Rattle.float.specs.Helpers.{absolute}
use Rattle.float.proofs.absolute.Goals as goal

same : (x : Float) → float_with_sign false x ≡ absolute x
unfolding float_with_sign absolute
same nan = refl
same (inf s) = refl
same (fin s m e) = refl

pub returns : goal.returns
returns c = c.abs.ensures.value ∙ same _
