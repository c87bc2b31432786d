-- `picture::plates::put_paved` meets its contract.
use Rattle.std.specs.Prelude.{Float, List, ℕ}
use mathlib.Core.Path.{refl}
use mathlib.Core.List.{[], ◌∷◌}
use mathlib.Core.Bool.{false}
use lib.Ieee.{inf}
use Rattle.state.specs.State.{Quad, cut}
use Rattle.fan_search.specs.Values.{boxed}
use Rattle.shapes.specs.Shapes.{worst}
use Rattle.frames.specs.Views.{view_text, size_text, head_text, middle_text, under_text, caption_text, closing}
use Rattle.captions.specs.Captions.{done_caption}
use Rattle.picture.specs.Plates.{shapes_text, framed_text, paved_text}
use Rattle.shapes.proofs.Pieces.{Going, start, fits, step, done}
use Rattle.fan_search.specs.declared.Box.{Box}
use Rattle.state.specs.declared.Counts.{Counts}
use Rattle.shapes.proofs.Turns.{quads_in}
use Rattle.picture.proofs.plates.put_paved.Goals as goal

-- the text in its pieces
begun : (out : List ℕ) (at : ℕ) (b : Box) (m : Float) (coords : List Float) (loops : List ℕ) (points : List Float) (counts : Counts) (quads : List Quad) (lengths : List ℕ) (nodes : List ℕ) → Going out at (paved_text (boxed b) m coords loops points quads (cut lengths nodes) counts) out at (head_text (view_text (boxed b) m) (size_text (boxed b) m) ∷ shapes_text coords loops points quads (cut lengths nodes) counts.laid ∷ caption_text (middle_text (boxed b)) (under_text (boxed b) m) ∷ done_caption counts (worst (inf false) points quads) ∷ closing ∷ [])
unfolding paved_text framed_text
begun out at b m coords loops points counts quads lengths nodes = start out at (head_text (view_text (boxed b) m) (size_text (boxed b) m) ∷ shapes_text coords loops points quads (cut lengths nodes) counts.laid ∷ caption_text (middle_text (boxed b)) (under_text (boxed b) m) ∷ done_caption counts (worst (inf false) points quads) ∷ closing ∷ []) refl

pub put_head-requires : goal.put_head-requires
put_head-requires c =
    fits (begun c.args.w.now.out.now c.args.w.now.at c.args.frame.bounds c.args.frame.margin c.args.outline.now.coords.now c.args.outline.now.loop_lengths.now c.args.fronts.now.points.now c.args.counts (quads_in c.args.quads.now) c.args.fronts.now.lengths.now c.args.fronts.now.nodes.now) c.requires

pub put_shapes-requires : goal.put_shapes-requires
put_shapes-requires c =
    fits (step (begun c.args.w.now.out.now c.args.w.now.at c.args.frame.bounds c.args.frame.margin c.args.outline.now.coords.now c.args.outline.now.loop_lengths.now c.args.fronts.now.points.now c.args.counts (quads_in c.args.quads.now) c.args.fronts.now.lengths.now c.args.fronts.now.nodes.now) c.put_head.ensures.put) c.requires

pub put_caption-requires : goal.put_caption-requires
put_caption-requires c =
    fits (step (step (begun c.args.w.now.out.now c.args.w.now.at c.args.frame.bounds c.args.frame.margin c.args.outline.now.coords.now c.args.outline.now.loop_lengths.now c.args.fronts.now.points.now c.args.counts (quads_in c.args.quads.now) c.args.fronts.now.lengths.now c.args.fronts.now.nodes.now) c.put_head.ensures.put) c.put_shapes.ensures.put) c.requires

pub put_done_words-requires : goal.put_done_words-requires
put_done_words-requires c =
    fits (step (step (step (begun c.args.w.now.out.now c.args.w.now.at c.args.frame.bounds c.args.frame.margin c.args.outline.now.coords.now c.args.outline.now.loop_lengths.now c.args.fronts.now.points.now c.args.counts (quads_in c.args.quads.now) c.args.fronts.now.lengths.now c.args.fronts.now.nodes.now) c.put_head.ensures.put) c.put_shapes.ensures.put) c.put_caption.ensures.put) c.requires

pub put_closing-requires : goal.put_closing-requires
put_closing-requires c =
    fits (step (step (step (step (begun c.args.w.now.out.now c.args.w.now.at c.args.frame.bounds c.args.frame.margin c.args.outline.now.coords.now c.args.outline.now.loop_lengths.now c.args.fronts.now.points.now c.args.counts (quads_in c.args.quads.now) c.args.fronts.now.lengths.now c.args.fronts.now.nodes.now) c.put_head.ensures.put) c.put_shapes.ensures.put) c.put_caption.ensures.put) c.put_done_words.ensures.put) c.requires

pub returns-clause-put : goal.returns-clause-put
returns-clause-put c =
    done (step (step (step (step (step (begun c.args.w.now.out.now c.args.w.now.at c.args.frame.bounds c.args.frame.margin c.args.outline.now.coords.now c.args.outline.now.loop_lengths.now c.args.fronts.now.points.now c.args.counts (quads_in c.args.quads.now) c.args.fronts.now.lengths.now c.args.fronts.now.nodes.now) c.put_head.ensures.put) c.put_shapes.ensures.put) c.put_caption.ensures.put) c.put_done_words.ensures.put) c.put_closing.ensures.put)
