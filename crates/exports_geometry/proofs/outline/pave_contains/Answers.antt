-- `exports_geometry::outline::pave_contains` meets its contract: there is an outline, or none.
use mathlib.Core.Path.{refl}
use Rattle.exports_geometry.specs.Outline.{contains_or_not}
use Rattle.exports_geometry.proofs.outline.pave_contains.Goals as goal

pub returns-in_default : goal.returns-in_default
unfolding contains_or_not
returns-in_default c = rw c.in_default.ensures refl

pub returns : goal.returns
unfolding contains_or_not
returns c = let k = c.in-Some.ensures in rw (k.0, ← k.1, ← k.2) c.contains.ensures
