-- `frames::heads::put_caption` meets its contract.
use Rattle.fan_search.specs.declared.Box.{Box}
use Prim.Native.Nat.{ℕ}
use lib.Ieee.{Float}
use mathlib.Core.Path.{refl}
use mathlib.Core.List.{List, [], ◌∷◌}
use Rattle.text.specs.Words.{ascii}
use Rattle.fan_search.specs.Values.{boxed}
use Rattle.frames.specs.Views.{middle_text, under_text, caption_text}
use Rattle.shapes.proofs.Pieces.{Going, start, fits, step, done}
use Rattle.frames.proofs.heads.put_caption.Goals as goal

-- the text in its pieces
begun : (out : List ℕ) (at : ℕ) (b : Box) (m : Float) → Going out at (caption_text (middle_text (boxed b)) (under_text (boxed b) m)) out at (ascii "<text x=\"" ∷ middle_text (boxed b) ∷ ascii "\" y=\"" ∷ under_text (boxed b) m ∷ ascii "\">" ∷ [])
unfolding caption_text
begun out at b m = start out at (ascii "<text x=\"" ∷ middle_text (boxed b) ∷ ascii "\" y=\"" ∷ under_text (boxed b) m ∷ ascii "\">" ∷ []) refl

pub bytes-requires : goal.bytes-requires
bytes-requires c =
    fits (begun c.args.w.now.out.now c.args.w.now.at c.args.frame.bounds c.args.frame.margin) c.requires

pub put_middle-requires : goal.put_middle-requires
put_middle-requires c =
    fits (step (begun c.args.w.now.out.now c.args.w.now.at c.args.frame.bounds c.args.frame.margin) c.bytes.ensures.put) c.requires

pub bytes-requires-2 : goal.bytes-requires-2
bytes-requires-2 c =
    fits (step (step (begun c.args.w.now.out.now c.args.w.now.at c.args.frame.bounds c.args.frame.margin) c.bytes.ensures.put) c.put_middle.ensures.put) c.requires

pub put_under-requires : goal.put_under-requires
put_under-requires c =
    fits (step (step (step (begun c.args.w.now.out.now c.args.w.now.at c.args.frame.bounds c.args.frame.margin) c.bytes.ensures.put) c.put_middle.ensures.put) c.bytes-2.ensures.put) c.requires

pub bytes-requires-3 : goal.bytes-requires-3
bytes-requires-3 c =
    fits (step (step (step (step (begun c.args.w.now.out.now c.args.w.now.at c.args.frame.bounds c.args.frame.margin) c.bytes.ensures.put) c.put_middle.ensures.put) c.bytes-2.ensures.put) c.put_under.ensures.put) c.requires

pub returns-clause-put : goal.returns-clause-put
returns-clause-put c =
    done (step (step (step (step (step (begun c.args.w.now.out.now c.args.w.now.at c.args.frame.bounds c.args.frame.margin) c.bytes.ensures.put) c.put_middle.ensures.put) c.bytes-2.ensures.put) c.put_under.ensures.put) c.bytes-3.ensures.put)
