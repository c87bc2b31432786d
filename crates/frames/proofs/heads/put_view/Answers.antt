-- `frames::heads::put_view` meets its contract. Left, top, width and height.
use Rattle.fan_search.specs.declared.Box.{Box}
use Prim.Native.Nat.{ℕ}
use lib.Ieee.{Float}
use mathlib.Core.Path.{refl}
use mathlib.Core.List.{List, [], ◌∷◌}
use Rattle.geometry.specs.F64.{◌⊕◌, ◌⊖◌}
use Rattle.text.specs.Words.{ascii}
use Rattle.fan_search.specs.Values.{boxed}
use Rattle.shapes.specs.Places.{across_text, up_text}
use Rattle.frames.specs.Views.{view_width, view_height, view_text}
use Rattle.shapes.proofs.Pieces.{Going, start, fits, step, done}
use Rattle.frames.proofs.heads.put_view.Goals as goal

-- the text in its pieces
begun : (out : List ℕ) (at : ℕ) (b : Box) (m : Float) → Going out at (view_text (boxed b) m) out at (across_text (b.left ⊖ m) ∷ ascii " " ∷ up_text (b.high ⊕ m) ∷ ascii " " ∷ across_text (view_width (boxed b) m) ∷ ascii " " ∷ across_text (view_height (boxed b) m) ∷ [])
unfolding view_text
begun out at b m = start out at (across_text (b.left ⊖ m) ∷ ascii " " ∷ up_text (b.high ⊕ m) ∷ ascii " " ∷ across_text (view_width (boxed b) m) ∷ ascii " " ∷ across_text (view_height (boxed b) m) ∷ []) refl

pub put_across-requires : goal.put_across-requires
put_across-requires c =
    fits (begun c.args.w.now.out.now c.args.w.now.at c.args.frame.bounds c.args.frame.margin) c.requires

pub byte-requires : goal.byte-requires
byte-requires c =
    fits (step (begun c.args.w.now.out.now c.args.w.now.at c.args.frame.bounds c.args.frame.margin) c.put_across.ensures.put) c.requires

pub put_up-requires : goal.put_up-requires
put_up-requires c =
    fits (step (step (begun c.args.w.now.out.now c.args.w.now.at c.args.frame.bounds c.args.frame.margin) c.put_across.ensures.put) c.byte.ensures.put) c.requires

pub byte-requires-2 : goal.byte-requires-2
byte-requires-2 c =
    fits (step (step (step (begun c.args.w.now.out.now c.args.w.now.at c.args.frame.bounds c.args.frame.margin) c.put_across.ensures.put) c.byte.ensures.put) c.put_up.ensures.put) c.requires

pub put_across-requires-2 : goal.put_across-requires-2
put_across-requires-2 c =
    fits (step (step (step (step (begun c.args.w.now.out.now c.args.w.now.at c.args.frame.bounds c.args.frame.margin) c.put_across.ensures.put) c.byte.ensures.put) c.put_up.ensures.put) c.byte-2.ensures.put) c.requires

pub byte-requires-3 : goal.byte-requires-3
byte-requires-3 c =
    fits (step (step (step (step (step (begun c.args.w.now.out.now c.args.w.now.at c.args.frame.bounds c.args.frame.margin) c.put_across.ensures.put) c.byte.ensures.put) c.put_up.ensures.put) c.byte-2.ensures.put) c.put_across-2.ensures.put) c.requires

pub put_across-requires-3 : goal.put_across-requires-3
put_across-requires-3 c =
    fits (step (step (step (step (step (step (begun c.args.w.now.out.now c.args.w.now.at c.args.frame.bounds c.args.frame.margin) c.put_across.ensures.put) c.byte.ensures.put) c.put_up.ensures.put) c.byte-2.ensures.put) c.put_across-2.ensures.put) c.byte-3.ensures.put) c.requires

pub returns-clause-put : goal.returns-clause-put
returns-clause-put c =
    done (step (step (step (step (step (step (step (begun c.args.w.now.out.now c.args.w.now.at c.args.frame.bounds c.args.frame.margin) c.put_across.ensures.put) c.byte.ensures.put) c.put_up.ensures.put) c.byte-2.ensures.put) c.put_across-2.ensures.put) c.byte-3.ensures.put) c.put_across-3.ensures.put)
