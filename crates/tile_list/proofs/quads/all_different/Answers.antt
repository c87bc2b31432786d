-- `tile_list::quads::all_different` meets its contract.
use mathlib.Core.Path.{◌∙◌}
use Prim.Native.Nat.{◌/◌}
use native.Mathlib.Omega.{arith}
use borrow.Author.Rules.{rules}
use lib.ListN.{length}
use Rattle.std.proofs.lemmas.Iterator.{YieldsList-from_slice}
use Rattle.std.proofs.lemmas.Iterator.Search.{all_from_yields_List}
use Rattle.std.specs.Simd.{first_chunks}
use Rattle.tile_text.specs.Reading.{quad_of}
use Rattle.tile_text.specs.TileList.{four_different}
use Rattle.tile_list.proofs.Turns.{all_fours}
use Rattle.tile_list.proofs.quads.all_different.Goals as goal

pub returns : goal.returns
returns c =
    let n = length c.args.quads.now / 4 in
    all_from_yields_List (λ q. four_different (quad_of q)) _ _ _ c.all.ensures.ran (YieldsList-from_slice (first_chunks 4 n c.args.quads.now) (search rules)) (λ x b q k. search rules)
    ∙ all_fours four_different n c.args.quads.now (omega arith)
