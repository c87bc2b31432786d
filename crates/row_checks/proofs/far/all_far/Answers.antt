-- `row_checks::far::all_far` meets its contract.
use mathlib.Core.Path.{refl, ◌∙◌}
use mathlib.Core.Bool.{Bool}
use Prim.Native.Nat.{ℕ}
use native.Mathlib.Omega.{arith}
use borrow.Author.Tests.{tests}
use Rattle.std.proofs.Common.{rules}
use Rattle.std.proofs.lemmas.Iterator.{YieldsList-from_range}
use Rattle.std.proofs.lemmas.Iterator.Search.{all_from_yields_List}
use Rattle.geometry.specs.Rings.{Ring, next, node_ring}
use Rattle.geometry.specs.Measures.{short_in_paving}
use Rattle.geometry.proofs.Literals.{short_is}
use Rattle.row_checks.specs.Far.{far_side}
use Rattle.row_checks.proofs.Ranges.{all_below}
use Rattle.row_checks.proofs.far.all_far.Goals as goal

pub returns : goal.returns
returns c =
    let s = short_is in
    let row = c.args.row.now in
    let r : Ring = node_ring c.args.front.now.pts.now c.args.front.now.nodes.now in
    let far : ℕ → Bool = λ i. far_side short_in_paving c.args.bound row.pts.now row.n (r.at i) (r.at (next r.size i)) in
    all_from_yields_List far _ _ _ c.all.ensures.ran (YieldsList-from_range 0 c.size-n.result c.size-n.result refl (omega arith)) (λ x b q k. search (rules, tests)) ∙ rw c.size-n.ensures (all_below far r.size)
