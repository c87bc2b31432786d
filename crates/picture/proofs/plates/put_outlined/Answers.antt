-- `picture::plates::put_outlined` meets its contract.
use Rattle.std.specs.Prelude.{Float, List, ℕ}
use mathlib.Core.Path.{refl}
use mathlib.Core.List.{[], ◌∷◌}
use Rattle.fan_search.specs.Values.{boxed}
use Rattle.shapes.specs.Shapes.{outline_text}
use Rattle.frames.specs.Views.{view_text, size_text, head_text, middle_text, under_text, caption_text, closing}
use Rattle.captions.specs.Captions.{refused_caption}
use Rattle.picture.specs.Plates.{framed_text}
use Rattle.shapes.proofs.Pieces.{Going, start, fits, step, done}
use Rattle.fan_search.specs.declared.Box.{Box}
use Rattle.picture.proofs.plates.put_outlined.Goals as goal

-- the text in its pieces
begun : (out : List ℕ) (at : ℕ) (b : Box) (m : Float) (coords : List Float) (loops : List ℕ) (n : ℕ) → Going out at (framed_text (boxed b) m (outline_text coords loops) (refused_caption n)) out at (head_text (view_text (boxed b) m) (size_text (boxed b) m) ∷ outline_text coords loops ∷ caption_text (middle_text (boxed b)) (under_text (boxed b) m) ∷ refused_caption n ∷ closing ∷ [])
unfolding framed_text
begun out at b m coords loops n = start out at (head_text (view_text (boxed b) m) (size_text (boxed b) m) ∷ outline_text coords loops ∷ caption_text (middle_text (boxed b)) (under_text (boxed b) m) ∷ refused_caption n ∷ closing ∷ []) refl

pub put_head-requires : goal.put_head-requires
put_head-requires c =
    fits (begun c.args.w.now.out.now c.args.w.now.at c.args.frame.bounds c.args.frame.margin c.args.outline.now.coords.now c.args.outline.now.loop_lengths.now c.args.n) c.requires

pub put_outline-requires : goal.put_outline-requires
put_outline-requires c =
    fits (step (begun c.args.w.now.out.now c.args.w.now.at c.args.frame.bounds c.args.frame.margin c.args.outline.now.coords.now c.args.outline.now.loop_lengths.now c.args.n) c.put_head.ensures.put) c.requires

pub put_caption-requires : goal.put_caption-requires
put_caption-requires c =
    fits (step (step (begun c.args.w.now.out.now c.args.w.now.at c.args.frame.bounds c.args.frame.margin c.args.outline.now.coords.now c.args.outline.now.loop_lengths.now c.args.n) c.put_head.ensures.put) c.put_outline.ensures.put) c.requires

pub put_refused-requires : goal.put_refused-requires
put_refused-requires c =
    fits (step (step (step (begun c.args.w.now.out.now c.args.w.now.at c.args.frame.bounds c.args.frame.margin c.args.outline.now.coords.now c.args.outline.now.loop_lengths.now c.args.n) c.put_head.ensures.put) c.put_outline.ensures.put) c.put_caption.ensures.put) c.requires

pub put_closing-requires : goal.put_closing-requires
put_closing-requires c =
    fits (step (step (step (step (begun c.args.w.now.out.now c.args.w.now.at c.args.frame.bounds c.args.frame.margin c.args.outline.now.coords.now c.args.outline.now.loop_lengths.now c.args.n) c.put_head.ensures.put) c.put_outline.ensures.put) c.put_caption.ensures.put) c.put_refused.ensures.put) c.requires

pub returns-clause-put : goal.returns-clause-put
returns-clause-put c =
    done (step (step (step (step (step (begun c.args.w.now.out.now c.args.w.now.at c.args.frame.bounds c.args.frame.margin c.args.outline.now.coords.now c.args.outline.now.loop_lengths.now c.args.n) c.put_head.ensures.put) c.put_outline.ensures.put) c.put_caption.ensures.put) c.put_refused.ensures.put) c.put_closing.ensures.put)
