-- `shapes::places::put_place` meets its contract. Both coordinates, a space behind each.
use Rattle.geometry.specs.declared.Point.{Point}
use Rattle.std.specs.Prelude.{List, ℕ}
use mathlib.Core.Path.{refl}
use mathlib.Core.List.{[], ◌∷◌}
use Rattle.text.specs.Words.{ascii}
use Rattle.shapes.specs.Places.{across_text, up_text, place_text}
use Rattle.shapes.proofs.Pieces.{Going, start, fits, step, done}
use Rattle.shapes.proofs.places.put_place.Goals as goal

-- the text in its pieces
begun : (out : List ℕ) (at : ℕ) (p : Point) → Going out at (place_text p) out at (across_text p.x ∷ ascii " " ∷ up_text p.y ∷ ascii " " ∷ [])
unfolding place_text
begun out at p = start out at (across_text p.x ∷ ascii " " ∷ up_text p.y ∷ ascii " " ∷ []) refl

pub put_across-requires : goal.put_across-requires
put_across-requires c =
    fits (begun c.args.w.now.out.now c.args.w.now.at c.args.p) c.requires

pub byte-requires : goal.byte-requires
byte-requires c =
    fits (step (begun c.args.w.now.out.now c.args.w.now.at c.args.p) c.put_across.ensures.put) c.requires

pub put_up-requires : goal.put_up-requires
put_up-requires c =
    fits (step (step (begun c.args.w.now.out.now c.args.w.now.at c.args.p) c.put_across.ensures.put) c.byte.ensures.put) c.requires

pub byte-requires-2 : goal.byte-requires-2
byte-requires-2 c =
    fits (step (step (step (begun c.args.w.now.out.now c.args.w.now.at c.args.p) c.put_across.ensures.put) c.byte.ensures.put) c.put_up.ensures.put) c.requires

pub returns-clause-put : goal.returns-clause-put
returns-clause-put c =
    done (step (step (step (step (begun c.args.w.now.out.now c.args.w.now.at c.args.p) c.put_across.ensures.put) c.byte.ensures.put) c.put_up.ensures.put) c.byte-2.ensures.put)
