-- `exports_geometry::fronts::front_of` meets its contract: the test before decides.
use mathlib.Core.Path.{refl, sym, ◌∙◌}
use Rattle.exports_geometry.proofs.Nodes.{named}
use Rattle.exports_geometry.proofs.fronts.front_of.Goals as goal

pub invariant_of-result : goal.invariant_of-result
invariant_of-result c = record { named = named _ _ _ c.nodes_fit.ensures c.if-nodes_fit.true }

pub returns-then-nodes_fit : goal.returns-then-nodes_fit
returns-then-nodes_fit c = (sym c.nodes_fit.ensures ∙ c.if-nodes_fit.true, refl, refl)

pub returns : goal.returns
returns c = sym c.nodes_fit.ensures ∙ c.if-nodes_fit.false
