-- `tile_list::quads::all_pass` meets its contract.
use mathlib.Core.Path.{◌∙◌}
use Prim.Native.Nat.{◌+◌, ◌*◌, ◌/◌, ◌<◌}
use native.Mathlib.Omega.{arith}
use borrow.Author.Rules.{rules}
use lib.ListN.{length}
use Rattle.std.proofs.lemmas.Iterator.{YieldsList-from_slice}
use Rattle.std.proofs.lemmas.Iterator.Adapters.{serves_from_places}
use Rattle.std.proofs.lemmas.Iterator.Search.{all_from_yields_List}
use Rattle.std.specs.Simd.{first_chunks}
use Rattle.input.specs.Limit.{default_limit}
use Rattle.rules.specs.Checks.{quad_passes}
use Rattle.tile_text.specs.Reading.{quad_of}
use Rattle.tile_list.proofs.Turns.{all_fours, of_fours}
use Rattle.tile_list.proofs.quads.all_pass.Goals as goal

pub all-requires-clause-callable : goal.all-requires-clause-callable
all-requires-clause-callable c =
    let n = length c.args.quads.now / 4 in
    let numbers = of_fours (λ k. k * 2 + 1 < length c.args.points.now) n c.args.quads.now (omega arith) c.requires in
    serves_from_places (YieldsList-from_slice (first_chunks 4 n c.args.quads.now) (search rules)) (λ x q k. search rules) (λ x k l e. let w = numbers k l x.now in search (rules, w))

pub returns : goal.returns
returns c =
    let n = length c.args.quads.now / 4 in
    all_from_yields_List (λ q. quad_passes default_limit c.args.points.now (quad_of q)) _ _ _ c.all.ensures.ran (YieldsList-from_slice (first_chunks 4 n c.args.quads.now) (search rules)) (λ x b q k. search rules)
    ∙ all_fours (quad_passes default_limit c.args.points.now) n c.args.quads.now (omega arith)
