-- `shapes::rings::put_open` meets its contract. The class between its words.
use Rattle.std.specs.Prelude.{List, ℕ}
use mathlib.Core.Path.{refl}
use mathlib.Core.List.{[], ◌∷◌}
use Rattle.text.specs.Words.{ascii}
use Rattle.shapes.specs.Shapes.{open_text}
use Rattle.shapes.proofs.Pieces.{Going, start, fits, step, done}
use Rattle.shapes.proofs.rings.put_open.Goals as goal

-- the text in its pieces
begun : (out : List ℕ) (at : ℕ) (class : ℕ) → Going out at (open_text class) out at (ascii "<path class=\"" ∷ (class ∷ []) ∷ ascii "\" d=\"" ∷ [])
unfolding open_text
begun out at class = start out at (ascii "<path class=\"" ∷ (class ∷ []) ∷ ascii "\" d=\"" ∷ []) refl

pub bytes-requires : goal.bytes-requires
bytes-requires c =
    fits (begun c.args.w.now.out.now c.args.w.now.at c.args.class) c.requires

pub byte-requires : goal.byte-requires
byte-requires c =
    fits (step (begun c.args.w.now.out.now c.args.w.now.at c.args.class) c.bytes.ensures.put) c.requires

pub bytes-requires-2 : goal.bytes-requires-2
bytes-requires-2 c =
    fits (step (step (begun c.args.w.now.out.now c.args.w.now.at c.args.class) c.bytes.ensures.put) c.byte.ensures.put) c.requires

pub returns-clause-put : goal.returns-clause-put
returns-clause-put c =
    done (step (step (step (begun c.args.w.now.out.now c.args.w.now.at c.args.class) c.bytes.ensures.put) c.byte.ensures.put) c.bytes-2.ensures.put)
