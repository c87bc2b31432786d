-- `captions::words::put_least` meets its contract.
use lib.Ieee.{Float}
use Prim.Native.Nat.{ℕ}
use mathlib.Core.Path.{refl}
use mathlib.Core.List.{List, [], ◌∷◌}
use Rattle.text.specs.Words.{ascii}
use Rattle.shapes.specs.Places.{across_text}
use Rattle.captions.specs.Captions.{least_text}
use Rattle.shapes.proofs.Pieces.{Going, start, fits, step, done}
use Rattle.captions.proofs.words.put_least.Goals as goal

-- the text in its pieces
begun : (out : List ℕ) (at : ℕ) (least : Float) → Going out at (least_text least) out at (ascii ", least corner " ∷ across_text least ∷ [])
unfolding least_text
begun out at least = start out at (ascii ", least corner " ∷ across_text least ∷ []) refl

pub bytes-requires : goal.bytes-requires
bytes-requires c =
    fits (begun c.args.w.now.out.now c.args.w.now.at c.args.least) c.requires

pub put_across-requires : goal.put_across-requires
put_across-requires c =
    fits (step (begun c.args.w.now.out.now c.args.w.now.at c.args.least) c.bytes.ensures.put) c.requires

pub returns-clause-put : goal.returns-clause-put
returns-clause-put c =
    done (step (step (begun c.args.w.now.out.now c.args.w.now.at c.args.least) c.bytes.ensures.put) c.put_across.ensures.put)
