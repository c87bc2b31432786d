-- `shapes::fronts::put_outline` meets its contract. The loops within a path.
use Rattle.std.specs.Prelude.{Float, List, ℕ}
use mathlib.Core.Path.{refl}
use mathlib.Core.List.{[], ◌∷◌}
use Rattle.text.specs.Words.{ascii}
use Rattle.shapes.specs.Shapes.{open_text, path_text, loops_text, outline_text}
use Rattle.shapes.proofs.Pieces.{Going, start, fits, step, done}
use Rattle.shapes.proofs.fronts.put_outline.Goals as goal

-- the text in its pieces
begun : (out : List ℕ) (at : ℕ) (coords : List Float) (loops : List ℕ) → Going out at (outline_text coords loops) out at (open_text 111 ∷ loops_text coords 0 loops ∷ ascii "\"/>\n" ∷ [])
unfolding path_text
begun out at coords loops = start out at (open_text 111 ∷ loops_text coords 0 loops ∷ ascii "\"/>\n" ∷ []) refl

pub put_open-requires : goal.put_open-requires
put_open-requires c =
    fits (begun c.args.w.now.out.now c.args.w.now.at c.args.outline.now.coords.now c.args.outline.now.loop_lengths.now) c.requires

pub put_loops-requires : goal.put_loops-requires
put_loops-requires c =
    fits (step (begun c.args.w.now.out.now c.args.w.now.at c.args.outline.now.coords.now c.args.outline.now.loop_lengths.now) c.put_open.ensures.put) c.requires

pub bytes-requires : goal.bytes-requires
bytes-requires c =
    fits (step (step (begun c.args.w.now.out.now c.args.w.now.at c.args.outline.now.coords.now c.args.outline.now.loop_lengths.now) c.put_open.ensures.put) c.put_loops.ensures.put) c.requires

pub returns-clause-put : goal.returns-clause-put
returns-clause-put c =
    done (step (step (step (begun c.args.w.now.out.now c.args.w.now.at c.args.outline.now.coords.now c.args.outline.now.loop_lengths.now) c.put_open.ensures.put) c.put_loops.ensures.put) c.bytes.ensures.put)
