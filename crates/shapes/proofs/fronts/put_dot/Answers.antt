-- `shapes::fronts::put_dot` meets its contract. The letter, the place, the line of no length.
use Rattle.geometry.specs.declared.Point.{Point}
use Rattle.std.specs.Prelude.{List, ℕ}
use mathlib.Core.Path.{refl}
use mathlib.Core.List.{[], ◌∷◌}
use Rattle.text.specs.Words.{ascii}
use Rattle.shapes.specs.Places.{place_text}
use Rattle.shapes.specs.Shapes.{dot_text}
use Rattle.shapes.proofs.Pieces.{Going, start, fits, step, done}
use Rattle.shapes.proofs.fronts.put_dot.Goals as goal

-- the text in its pieces
begun : (out : List ℕ) (at : ℕ) (p : Point) → Going out at (dot_text p) out at (ascii "M" ∷ place_text p ∷ ascii "h0" ∷ [])
unfolding dot_text
begun out at p = start out at (ascii "M" ∷ place_text p ∷ ascii "h0" ∷ []) refl

pub byte-requires : goal.byte-requires
byte-requires c =
    fits (begun c.args.w.now.out.now c.args.w.now.at c.args.p) c.requires

pub put_place-requires : goal.put_place-requires
put_place-requires c =
    fits (step (begun c.args.w.now.out.now c.args.w.now.at c.args.p) c.byte.ensures.put) c.requires

pub bytes-requires : goal.bytes-requires
bytes-requires c =
    fits (step (step (begun c.args.w.now.out.now c.args.w.now.at c.args.p) c.byte.ensures.put) c.put_place.ensures.put) c.requires

pub returns-clause-put : goal.returns-clause-put
returns-clause-put c =
    done (step (step (step (begun c.args.w.now.out.now c.args.w.now.at c.args.p) c.byte.ensures.put) c.put_place.ensures.put) c.bytes.ensures.put)
