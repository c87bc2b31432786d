-- `row_checks::checks::all_off_boundary` meets its contract.
use mathlib.Core.Path.{refl, ◌∙◌}
use mathlib.Core.Bool.{Bool, not}
use Prim.Native.Nat.{ℕ}
use native.Mathlib.Omega.{arith}
use borrow.Author.Tests.{tests}
use lib.Ieee.{lt}
use Rattle.std.proofs.Common.{rules}
use Rattle.std.proofs.lemmas.Iterator.{YieldsList-from_range}
use Rattle.std.proofs.lemmas.Iterator.Search.{all_from_yields_List}
use Rattle.geometry.specs.Rings.{point_at}
use Rattle.geometry.specs.Domain.{distance_to_boundary, rings}
use Rattle.row_checks.proofs.Ranges.{all_below}
use Rattle.row_checks.proofs.checks.all_off_boundary.Goals as goal

pub returns : goal.returns
returns c =
    let row = c.args.row.now in
    let outline = c.args.outline.now in
    let off : ℕ → Bool = λ i. not (lt (distance_to_boundary (rings outline.coords.now outline.loop_lengths.now) (point_at row.pts.now i)) c.args.least) in
    all_from_yields_List off _ _ _ c.all.ensures.ran (YieldsList-from_range 0 row.n row.n refl (omega arith)) (λ x b q k. search (rules, tests)) ∙ all_below off row.n
