-- `exports_geometry::outline::outline_of` meets its contract: the test before decides.
use mathlib.Core.Path.{refl, sym, ◌∙◌}
use Rattle.exports_geometry.proofs.Loops.{room}
use Rattle.exports_geometry.proofs.outline.outline_of.Goals as goal

pub invariant_of-result : goal.invariant_of-result
invariant_of-result c = record { fits = room _ _ _ c.loops_fit.ensures c.if-loops_fit.true }

pub returns-then-loops_fit : goal.returns-then-loops_fit
returns-then-loops_fit c = (sym c.loops_fit.ensures ∙ c.if-loops_fit.true, refl, refl)

pub returns : goal.returns
returns c = sym c.loops_fit.ensures ∙ c.if-loops_fit.false
