-- `frames::heads::put_head` meets its contract.
use Rattle.fan_search.specs.declared.Box.{Box}
use Prim.Native.Nat.{ℕ}
use lib.Ieee.{Float}
use mathlib.Core.Path.{refl}
use mathlib.Core.List.{List, [], ◌∷◌}
use Rattle.text.specs.Words.{ascii}
use Rattle.fan_search.specs.Values.{boxed}
use Rattle.frames.specs.Views.{opening, view_text, size_text, style, head_text}
use Rattle.shapes.proofs.Pieces.{Going, start, fits, step, done}
use Rattle.frames.proofs.heads.put_head.Goals as goal

-- the text in its pieces
begun : (out : List ℕ) (at : ℕ) (b : Box) (m : Float) → Going out at (head_text (view_text (boxed b) m) (size_text (boxed b) m)) out at (opening ∷ view_text (boxed b) m ∷ ascii "\" font-size=\"" ∷ size_text (boxed b) m ∷ style ∷ [])
unfolding head_text
begun out at b m = start out at (opening ∷ view_text (boxed b) m ∷ ascii "\" font-size=\"" ∷ size_text (boxed b) m ∷ style ∷ []) refl

pub put_opening-requires : goal.put_opening-requires
put_opening-requires c =
    fits (begun c.args.w.now.out.now c.args.w.now.at c.args.frame.bounds c.args.frame.margin) c.requires

pub put_view-requires : goal.put_view-requires
put_view-requires c =
    fits (step (begun c.args.w.now.out.now c.args.w.now.at c.args.frame.bounds c.args.frame.margin) c.put_opening.ensures.put) c.requires

pub bytes-requires : goal.bytes-requires
bytes-requires c =
    fits (step (step (begun c.args.w.now.out.now c.args.w.now.at c.args.frame.bounds c.args.frame.margin) c.put_opening.ensures.put) c.put_view.ensures.put) c.requires

pub put_size-requires : goal.put_size-requires
put_size-requires c =
    fits (step (step (step (begun c.args.w.now.out.now c.args.w.now.at c.args.frame.bounds c.args.frame.margin) c.put_opening.ensures.put) c.put_view.ensures.put) c.bytes.ensures.put) c.requires

pub put_style-requires : goal.put_style-requires
put_style-requires c =
    fits (step (step (step (step (begun c.args.w.now.out.now c.args.w.now.at c.args.frame.bounds c.args.frame.margin) c.put_opening.ensures.put) c.put_view.ensures.put) c.bytes.ensures.put) c.put_size.ensures.put) c.requires

pub returns-clause-put : goal.returns-clause-put
returns-clause-put c =
    done (step (step (step (step (step (begun c.args.w.now.out.now c.args.w.now.at c.args.frame.bounds c.args.frame.margin) c.put_opening.ensures.put) c.put_view.ensures.put) c.bytes.ensures.put) c.put_size.ensures.put) c.put_style.ensures.put)
