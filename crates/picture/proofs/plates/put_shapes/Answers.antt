-- `picture::plates::put_shapes` meets its contract. Tiles, outline, fronts, dots.
use Rattle.std.specs.Prelude.{Float, List, ℕ}
use mathlib.Core.Path.{refl}
use mathlib.Core.List.{[], ◌∷◌}
use Rattle.state.specs.State.{Quad, cut}
use Rattle.input.specs.Limit.{default_limit}
use Rattle.shapes.specs.Shapes.{tiles_text, outline_text, fronts_text}
use Rattle.picture.specs.Plates.{dots_text, shapes_text}
use Rattle.shapes.proofs.Pieces.{Going, start, fits, step, done}
use Rattle.shapes.proofs.Turns.{quads_in}
use Rattle.picture.proofs.plates.put_shapes.Goals as goal

-- the text in its pieces
begun : (out : List ℕ) (at : ℕ) (coords : List Float) (loops : List ℕ) (points : List Float) (quads : List Quad) (lengths : List ℕ) (nodes : List ℕ) (laid : ℕ) → Going out at (shapes_text coords loops points quads (cut lengths nodes) laid) out at (tiles_text default_limit points quads ∷ outline_text coords loops ∷ fronts_text points (cut lengths nodes) ∷ dots_text points laid ∷ [])
unfolding shapes_text
begun out at coords loops points quads lengths nodes laid = start out at (tiles_text default_limit points quads ∷ outline_text coords loops ∷ fronts_text points (cut lengths nodes) ∷ dots_text points laid ∷ []) refl

pub put_tiles-requires : goal.put_tiles-requires
put_tiles-requires c =
    rw c.default_limit-limit.ensures (fits (begun c.args.w.now.out.now c.args.w.now.at c.args.outline.now.coords.now c.args.outline.now.loop_lengths.now c.args.fronts.now.points.now (quads_in c.args.quads.now) c.args.fronts.now.lengths.now c.args.fronts.now.nodes.now c.args.laid) c.requires)

pub put_outline-requires : goal.put_outline-requires
put_outline-requires c =
    fits (step (begun c.args.w.now.out.now c.args.w.now.at c.args.outline.now.coords.now c.args.outline.now.loop_lengths.now c.args.fronts.now.points.now (quads_in c.args.quads.now) c.args.fronts.now.lengths.now c.args.fronts.now.nodes.now c.args.laid) (rw c.default_limit-limit.ensures at c.put_tiles.ensures.put)) c.requires

pub put_fronts-requires : goal.put_fronts-requires
put_fronts-requires c =
    record {
      room = fits (step (step (begun c.args.w.now.out.now c.args.w.now.at c.args.outline.now.coords.now c.args.outline.now.loop_lengths.now c.args.fronts.now.points.now (quads_in c.args.quads.now) c.args.fronts.now.lengths.now c.args.fronts.now.nodes.now c.args.laid) (rw c.default_limit-limit.ensures at c.put_tiles.ensures.put)) c.put_outline.ensures.put) c.requires;
      lengths_in_bounds = c.args.fronts.now.fits;
    }

pub put_dots-requires : goal.put_dots-requires
put_dots-requires c =
    fits (step (step (step (begun c.args.w.now.out.now c.args.w.now.at c.args.outline.now.coords.now c.args.outline.now.loop_lengths.now c.args.fronts.now.points.now (quads_in c.args.quads.now) c.args.fronts.now.lengths.now c.args.fronts.now.nodes.now c.args.laid) (rw c.default_limit-limit.ensures at c.put_tiles.ensures.put)) c.put_outline.ensures.put) c.put_fronts.ensures.put) c.requires

pub returns-clause-put : goal.returns-clause-put
returns-clause-put c =
    done (step (step (step (step (begun c.args.w.now.out.now c.args.w.now.at c.args.outline.now.coords.now c.args.outline.now.loop_lengths.now c.args.fronts.now.points.now (quads_in c.args.quads.now) c.args.fronts.now.lengths.now c.args.fronts.now.nodes.now c.args.laid) (rw c.default_limit-limit.ensures at c.put_tiles.ensures.put)) c.put_outline.ensures.put) c.put_fronts.ensures.put) c.put_dots.ensures.put)
