-- `picture::plates::put_dots` meets its contract.
use Rattle.std.specs.Prelude.{Float, List, ℕ}
use mathlib.Core.Path.{refl}
use mathlib.Core.List.{[], ◌∷◌}
use Prim.Native.Nat.{◌-◌, ◌/◌}
use lib.ListN.{length}
use Rattle.shapes.specs.Shapes.{nodes_text}
use Rattle.picture.specs.Plates.{dots_text}
use Rattle.shapes.proofs.Pieces.{Going, start, fits, step, done}
use Rattle.picture.proofs.plates.put_dots.Goals as goal

-- the text in its pieces
begun : (out : List ℕ) (at : ℕ) (points : List Float) (laid : ℕ) → Going out at (dots_text points laid) out at (nodes_text 110 points (length points / 2) ∷ nodes_text 115 points (length points / 2 - laid) ∷ [])
unfolding dots_text
begun out at points laid = start out at (nodes_text 110 points (length points / 2) ∷ nodes_text 115 points (length points / 2 - laid) ∷ []) refl

pub put_nodes-requires : goal.put_nodes-requires
put_nodes-requires c =
    let a = c.all-all.ensures in
    rw (a.points, a.count) (fits (begun c.args.w.now.out.now c.args.w.now.at c.args.points.now c.args.laid) c.requires)

pub put_nodes-requires-2 : goal.put_nodes-requires-2
put_nodes-requires-2 c =
    let a = c.all-all.ensures in
    rw (c.saturating_sub.ensures, a.count) (fits (step (begun c.args.w.now.out.now c.args.w.now.at c.args.points.now c.args.laid) (rw (a.points, a.count) at c.put_nodes.ensures.put)) c.requires)

pub returns-clause-put : goal.returns-clause-put
returns-clause-put c =
    let a = c.all-all.ensures in
    done (step (step (begun c.args.w.now.out.now c.args.w.now.at c.args.points.now c.args.laid) (rw (a.points, a.count) at c.put_nodes.ensures.put)) (rw (c.saturating_sub.ensures, a.count) at c.put_nodes-2.ensures.put))
