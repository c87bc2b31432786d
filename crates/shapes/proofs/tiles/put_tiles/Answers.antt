use Rattle.std.proofs.Common.{◌∙◌, refl, map, drop, ◌+◌}
use Rattle.text.proofs.Midst.{begin, more, room, ended, same_rest}
use Rattle.shapes.specs.Shapes.{tiles_text, quad_at}
use Rattle.shapes.proofs.Turns.{all_chunked, tiles_next, tiles_end}
use Rattle.shapes.proofs.tiles.put_tiles.Goals as goal

pub loop-nodes-init : goal.loop-nodes-init
loop-nodes-init c = (rw (c.as_chunks.ensures.front, all_chunked) (begin _ _ _), refl)

pub put_tile-requires : goal.put_tile-requires
put_tile-requires c =
    let i = c.loop-nodes.nodes-index in
    let l = c.as_chunks.result.0.now in
    room _ (tiles_text c.args.limit c.args.points.now (map quad_at (drop (i + 1) l)))
    (same_rest (tiles_next l i c.args.limit c.args.points.now _ c.loop-nodes-test.true refl) c.loop-nodes.invariant.0) c.requires

pub loop-nodes-preserved : goal.loop-nodes-preserved
loop-nodes-preserved c =
    let i = c.loop-nodes.nodes-index in
    let l = c.as_chunks.result.0.now in
    (more (same_rest (tiles_next l i c.args.limit c.args.points.now _ c.loop-nodes-test.true refl) c.loop-nodes.invariant.0) c.put_tile.ensures.put, c.put_tile.ensures.same ∙ c.loop-nodes.invariant.1)

pub returns-clause-put : goal.returns-clause-put
returns-clause-put c =
    ended (same_rest (tiles_end c.as_chunks.result.0.now c.loop-nodes.nodes-index c.args.limit c.args.points.now c.loop-nodes-test.false) c.loop-nodes.invariant.0)
