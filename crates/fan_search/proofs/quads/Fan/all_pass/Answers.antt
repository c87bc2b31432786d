use mathlib.Core.Path.{refl, ◌∙◌}
use Prim.Native.Nat.{◌/◌}
use native.Mathlib.Omega.{arith}
use lib.ListN.{length}
use Rattle.std.proofs.Common.{rules}
use Rattle.std.proofs.lemmas.Iterator.{YieldsList-from_range}
use Rattle.std.proofs.lemmas.Iterator.Search.{all_from_yields_List}
use Rattle.rules.specs.Checks.{quad_passes}
use Rattle.rules.specs.Closing.{turned_quad}
use Rattle.fan_search.specs.Quads.{with_centre, plain_quad}
use Rattle.fan_search.proofs.Fanning.{every_passes}
use Rattle.fan_search.proofs.quads.Fan.all_pass.Goals as goal

pub returns : goal.returns
returns c =
    let front = c.args.self.now.front in
    let pts = with_centre front.pts.now c.args.self.now.centre in
    let centre = length front.pts.now / 2 in
    let m = length front.nodes.now / 2 in
    all_from_yields_List (λ k. quad_passes c.args.limit pts (turned_quad pts (plain_quad front.nodes.now centre k))) _ _ _ c.all.ensures.ran (YieldsList-from_range 0 m m refl (omega arith)) (λ x b q k. search rules)
    ∙ every_passes c.args.limit pts front.nodes.now centre m
