-- `frames::heads::put_style` meets its contract, line by line.
use Prim.Native.Nat.{ℕ}
use mathlib.Core.Path.{refl}
use mathlib.Core.List.{List, [], ◌∷◌}
use Rattle.frames.specs.Views.{paper, darker, lighter, strokes, style}
use Rattle.shapes.proofs.Pieces.{Going, start, fits, step, done}
use Rattle.frames.proofs.heads.put_style.Goals as goal

-- the text in its pieces
begun : (out : List ℕ) (at : ℕ) → Going out at style out at (paper ∷ darker ∷ lighter ∷ strokes ∷ [])
unfolding style
begun out at = start out at (paper ∷ darker ∷ lighter ∷ strokes ∷ []) refl

pub put_paper-requires : goal.put_paper-requires
put_paper-requires c =
    fits (begun c.args.w.now.out.now c.args.w.now.at) c.requires

pub put_darker-requires : goal.put_darker-requires
put_darker-requires c =
    fits (step (begun c.args.w.now.out.now c.args.w.now.at) c.put_paper.ensures.put) c.requires

pub put_lighter-requires : goal.put_lighter-requires
put_lighter-requires c =
    fits (step (step (begun c.args.w.now.out.now c.args.w.now.at) c.put_paper.ensures.put) c.put_darker.ensures.put) c.requires

pub put_strokes-requires : goal.put_strokes-requires
put_strokes-requires c =
    fits (step (step (step (begun c.args.w.now.out.now c.args.w.now.at) c.put_paper.ensures.put) c.put_darker.ensures.put) c.put_lighter.ensures.put) c.requires

pub returns-clause-put : goal.returns-clause-put
returns-clause-put c =
    done (step (step (step (step (begun c.args.w.now.out.now c.args.w.now.at) c.put_paper.ensures.put) c.put_darker.ensures.put) c.put_lighter.ensures.put) c.put_strokes.ensures.put)
