-- `exports_geometry::fronts::nodes_fit` meets its contract. Where no test is made, every node number is a u16 and so below the number of points.
use mathlib.Core.Path.{◌∙◌, ap}
use native.Mathlib.Omega.{arith}
use Prim.Native.Nat.{ℕ}
use Rattle.exports_geometry.specs.Fronts.{nodes_fit, all_below}
use Rattle.exports_geometry.proofs.Nodes.{all_small}
use Rattle.exports_geometry.proofs.fronts.nodes_fit.Goals as goal

pub returns-in_default : goal.returns-in_default
unfolding nodes_fit
returns-in_default c =
    let many = c.in_default.ensures in
    all_small _ _ (λ i. omega (arith, many, c.type_inv.nodes i))

pub returns-then-nodes-lt16 : goal.returns-then-nodes-lt16
unfolding nodes_fit
returns-then-nodes-lt16 c = let k = c.in-Ok.ensures in c.few_below.ensures ∙ ap (λ (n : ℕ). all_below n c.args.nodes.now) k.1

pub returns-else-nodes-lt16 : goal.returns-else-nodes-lt16
unfolding nodes_fit
returns-else-nodes-lt16 c = let k = c.in-Ok.ensures in c.many_below.ensures ∙ ap (λ (n : ℕ). all_below n c.args.nodes.now) k.1
