-- `captions::words::put_sizes` meets its contract, count by count.
use Rattle.state.specs.declared.Counts.{Counts}
use Prim.Native.Nat.{ℕ}
use mathlib.Core.Path.{refl}
use mathlib.Core.List.{List, [], ◌∷◌}
use Rattle.text.specs.Words.{ascii}
use Rattle.captions.specs.Captions.{count_text, sizes_text}
use Rattle.shapes.proofs.Pieces.{Going, start, fits, step, done}
use Rattle.captions.proofs.words.put_sizes.Goals as goal

-- the text in its pieces
begun : (out : List ℕ) (at : ℕ) (counts : Counts) → Going out at (sizes_text counts) out at (count_text (ascii "points ") counts.points ∷ count_text (ascii ", quads ") counts.quads ∷ count_text (ascii ", fronts ") counts.fronts ∷ count_text (ascii ", row_quads ") counts.row_quads ∷ [])
unfolding sizes_text
begun out at counts = start out at (count_text (ascii "points ") counts.points ∷ count_text (ascii ", quads ") counts.quads ∷ count_text (ascii ", fronts ") counts.fronts ∷ count_text (ascii ", row_quads ") counts.row_quads ∷ []) refl

pub put_count-requires : goal.put_count-requires
put_count-requires c =
    fits (begun c.args.w.now.out.now c.args.w.now.at c.args.c) c.requires

pub put_count-requires-2 : goal.put_count-requires-2
put_count-requires-2 c =
    fits (step (begun c.args.w.now.out.now c.args.w.now.at c.args.c) c.put_count.ensures.put) c.requires

pub put_count-requires-3 : goal.put_count-requires-3
put_count-requires-3 c =
    fits (step (step (begun c.args.w.now.out.now c.args.w.now.at c.args.c) c.put_count.ensures.put) c.put_count-2.ensures.put) c.requires

pub put_count-requires-4 : goal.put_count-requires-4
put_count-requires-4 c =
    fits (step (step (step (begun c.args.w.now.out.now c.args.w.now.at c.args.c) c.put_count.ensures.put) c.put_count-2.ensures.put) c.put_count-3.ensures.put) c.requires

pub returns-clause-put : goal.returns-clause-put
returns-clause-put c =
    done (step (step (step (step (begun c.args.w.now.out.now c.args.w.now.at c.args.c) c.put_count.ensures.put) c.put_count-2.ensures.put) c.put_count-3.ensures.put) c.put_count-4.ensures.put)
