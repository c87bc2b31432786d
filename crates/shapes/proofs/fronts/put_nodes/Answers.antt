-- `shapes::fronts::put_nodes` meets its contract. The dots within a path.
use Rattle.std.specs.Prelude.{Float, List, ℕ}
use mathlib.Core.Path.{refl}
use mathlib.Core.List.{[], ◌∷◌}
use Rattle.state.specs.State.{numbered}
use Rattle.text.specs.Words.{ascii}
use Rattle.shapes.specs.Shapes.{open_text, path_text, dots_text, nodes_text}
use Rattle.shapes.proofs.Pieces.{Going, start, fits, step, done}
use Rattle.shapes.proofs.fronts.put_nodes.Goals as goal

-- the text in its pieces
begun : (out : List ℕ) (at : ℕ) (class : ℕ) (points : List Float) (n : ℕ) → Going out at (nodes_text class points n) out at (open_text class ∷ dots_text points (numbered 0 n) ∷ ascii "\"/>\n" ∷ [])
unfolding path_text
begun out at class points n = start out at (open_text class ∷ dots_text points (numbered 0 n) ∷ ascii "\"/>\n" ∷ []) refl

pub put_open-requires : goal.put_open-requires
put_open-requires c =
    fits (begun c.args.w.now.out.now c.args.w.now.at c.args.class c.args.nodes.now.pts.now c.args.nodes.now.n) c.requires

pub put_dots-requires : goal.put_dots-requires
put_dots-requires c =
    fits (step (begun c.args.w.now.out.now c.args.w.now.at c.args.class c.args.nodes.now.pts.now c.args.nodes.now.n) c.put_open.ensures.put) c.requires

pub bytes-requires : goal.bytes-requires
bytes-requires c =
    fits (step (step (begun c.args.w.now.out.now c.args.w.now.at c.args.class c.args.nodes.now.pts.now c.args.nodes.now.n) c.put_open.ensures.put) c.put_dots.ensures.put) c.requires

pub returns-clause-put : goal.returns-clause-put
returns-clause-put c =
    done (step (step (step (begun c.args.w.now.out.now c.args.w.now.at c.args.class c.args.nodes.now.pts.now c.args.nodes.now.n) c.put_open.ensures.put) c.put_dots.ensures.put) c.bytes.ensures.put)
