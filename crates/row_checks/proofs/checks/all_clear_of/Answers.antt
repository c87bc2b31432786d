-- `row_checks::checks::all_clear_of` meets its contract.
use mathlib.Core.Path.{refl, ◌∙◌}
use mathlib.Core.Bool.{Bool, false, not}
use Prim.Native.Nat.{ℕ}
use native.Mathlib.Omega.{arith}
use borrow.Author.Tests.{tests}
use lib.Ieee.{inf, lt}
use lib.ListN.{length}
use Rattle.std.proofs.Common.{rules}
use Rattle.std.proofs.lemmas.Iterator.{YieldsList-from_range}
use Rattle.std.proofs.lemmas.Iterator.Search.{all_from_yields_List}
use Rattle.geometry.specs.Rings.{point_at, node_ring}
use Rattle.geometry.specs.Measures.{ring_distance}
use Rattle.row_checks.proofs.Ranges.{all_below}
use Rattle.row_checks.proofs.checks.all_clear_of.Goals as goal

pub returns : goal.returns
returns c =
    let a = c.args in
    let row = a.row.now in
    let front = a.front.now in
    let far : ℕ → Bool = λ i. not (lt (ring_distance (inf false) (point_at row.pts.now i) (node_ring front.pts.now front.nodes.now) (length front.nodes.now)) a.least) in
    all_from_yields_List far _ _ _ c.all.ensures.ran (YieldsList-from_range 0 row.n row.n refl (omega arith)) (λ x b q k. search (rules, tests)) ∙ all_below far row.n
