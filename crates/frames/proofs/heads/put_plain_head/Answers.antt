-- `frames::heads::put_plain_head` meets its contract.
use Prim.Native.Nat.{ℕ}
use mathlib.Core.Path.{refl}
use mathlib.Core.List.{List, [], ◌∷◌}
use Rattle.text.specs.Words.{ascii}
use Rattle.frames.specs.Views.{opening, style, head_text}
use Rattle.frames.specs.Views.{plain_head}
use Rattle.shapes.proofs.Pieces.{Going, start, fits, step, done}
use Rattle.frames.proofs.heads.put_plain_head.Goals as goal

-- the text in its pieces
begun : (out : List ℕ) (at : ℕ) → Going out at plain_head out at (opening ∷ ascii "0 0 720 40" ∷ ascii "\" font-size=\"" ∷ ascii "10" ∷ style ∷ [])
unfolding plain_head head_text
begun out at = start out at (opening ∷ ascii "0 0 720 40" ∷ ascii "\" font-size=\"" ∷ ascii "10" ∷ style ∷ []) refl

pub put_opening-requires : goal.put_opening-requires
put_opening-requires c =
    fits (begun c.args.w.now.out.now c.args.w.now.at) c.requires

pub bytes-requires : goal.bytes-requires
bytes-requires c =
    fits (step (begun c.args.w.now.out.now c.args.w.now.at) c.put_opening.ensures.put) c.requires

pub bytes-requires-2 : goal.bytes-requires-2
bytes-requires-2 c =
    fits (step (step (begun c.args.w.now.out.now c.args.w.now.at) c.put_opening.ensures.put) c.bytes.ensures.put) c.requires

pub bytes-requires-3 : goal.bytes-requires-3
bytes-requires-3 c =
    fits (step (step (step (begun c.args.w.now.out.now c.args.w.now.at) c.put_opening.ensures.put) c.bytes.ensures.put) c.bytes-2.ensures.put) c.requires

pub put_style-requires : goal.put_style-requires
put_style-requires c =
    fits (step (step (step (step (begun c.args.w.now.out.now c.args.w.now.at) c.put_opening.ensures.put) c.bytes.ensures.put) c.bytes-2.ensures.put) c.bytes-3.ensures.put) c.requires

pub returns-clause-put : goal.returns-clause-put
returns-clause-put c =
    done (step (step (step (step (step (begun c.args.w.now.out.now c.args.w.now.at) c.put_opening.ensures.put) c.bytes.ensures.put) c.bytes-2.ensures.put) c.bytes-3.ensures.put) c.put_style.ensures.put)
