-- `planning::keep::all_apart` meets its contract.
use mathlib.Core.Path.{refl, sym, ◌∙◌}
use native.Mathlib.Nat.{le_refl}
use native.Mathlib.Omega.{arith}
use borrow.Author.Tests.{tests}
use Rattle.std.proofs.Common.{rules}
use Rattle.std.proofs.lemmas.Iterator.{YieldsList-from_range}
use Rattle.std.proofs.lemmas.Iterator.Search.{all_from_yields_List}
use Rattle.state.proofs.Stores.{front_part}
use Rattle.planning.specs.Ring.{closeness}
use Rattle.planning.proofs.Keeping.{all_kept, apart}
use Rattle.planning.proofs.keep.all_apart.Goals as goal

pub returns : goal.returns
returns c =
    let given = c.args.given.now in
    let tested = all_from_yields_List (apart (closeness c.args.h) given.pts.now) _ _ _ c.all.ensures.ran (YieldsList-from_range 0 given.n given.n refl (omega arith)) (λ x b q k. search (rules, tests)) in
    λ e.
    let all = all_kept (closeness c.args.h) given.pts.now given.n given.fits (sym tested ∙ e) given.n (le_refl given.n) in
    front_part given.pts.now _ _ _ given.fits all.0 all.1
