-- `captions::words::put_done` meets its contract.
use Rattle.state.specs.declared.Counts.{Counts}
use Prim.Native.Nat.{ℕ}
use lib.Ieee.{Float}
use mathlib.Core.Path.{refl}
use mathlib.Core.List.{List, [], ◌∷◌}
use Rattle.captions.specs.Captions.{sizes_text, steps_text, corner_text, done_caption}
use Rattle.shapes.proofs.Pieces.{Going, start, fits, step, done}
use Rattle.captions.proofs.words.put_done.Goals as goal

-- the text in its pieces
begun : (out : List ℕ) (at : ℕ) (counts : Counts) (least : Float) → Going out at (done_caption counts least) out at (sizes_text counts ∷ steps_text counts ∷ corner_text counts.quads least ∷ [])
unfolding done_caption
begun out at counts least = start out at (sizes_text counts ∷ steps_text counts ∷ corner_text counts.quads least ∷ []) refl

pub put_sizes-requires : goal.put_sizes-requires
put_sizes-requires c =
    fits (begun c.args.w.now.out.now c.args.w.now.at c.args.c c.args.least) c.requires

pub put_steps-requires : goal.put_steps-requires
put_steps-requires c =
    fits (step (begun c.args.w.now.out.now c.args.w.now.at c.args.c c.args.least) c.put_sizes.ensures.put) c.requires

pub put_corner-requires : goal.put_corner-requires
put_corner-requires c =
    fits (step (step (begun c.args.w.now.out.now c.args.w.now.at c.args.c c.args.least) c.put_sizes.ensures.put) c.put_steps.ensures.put) c.requires

pub returns-clause-put : goal.returns-clause-put
returns-clause-put c =
    done (step (step (step (begun c.args.w.now.out.now c.args.w.now.at c.args.c c.args.least) c.put_sizes.ensures.put) c.put_steps.ensures.put) c.put_corner.ensures.put)
