-- `shapes::rings::put_shape` meets its contract. The ring within a path.
use Rattle.std.specs.Prelude.{Float, List, ℕ}
use mathlib.Core.Path.{refl}
use mathlib.Core.List.{[], ◌∷◌}
use Rattle.std.specs.Iterator.Adapters.{map_source, map_callee}
use Rattle.std.specs.Slice.Iter.{iter_rest}
use borrow.Author.Rules.{lives}
use Rattle.std.proofs.Common.{rules, tests, of_calls, Bor, ap, ◌∙◌}
use Rattle.std.proofs.lemmas.Iterator.{YieldsList-from_map, YieldsList-from_slice}
use Rattle.geometry.specs.Rings.{point_at}
use Rattle.text.specs.Words.{ascii}
use Rattle.shapes.specs.Shapes.{ring_text, open_text, path_text}
use Rattle.text.proofs.Midst.{put_same}
use Rattle.shapes.proofs.Closed.{line_at}
use Rattle.shapes.proofs.Pieces.{Going, start, fits, step, done}
use Rattle.shapes.proofs.rings.put_shape.Goals as goal

-- the text in its pieces
begun : (out : List ℕ) (at : ℕ) (class : ℕ) (points : List Float) (nodes : List ℕ) → Going out at (path_text class (ring_text points nodes)) out at (open_text class ∷ ring_text points nodes ∷ ascii "\"/>\n" ∷ [])
unfolding path_text
begun out at class points nodes = start out at (open_text class ∷ ring_text points nodes ∷ ascii "\"/>\n" ∷ []) refl

pub put_open-requires : goal.put_open-requires
put_open-requires c =
    fits (begun c.args.w.now.out.now c.args.w.now.at c.args.class c.args.points.now c.args.nodes.now) c.requires

pub put_ring-requires : goal.put_ring-requires
put_ring-requires c = λ k i. (
  search (lives, i.0, i.1.0) depth 12,
  (
    rw (line_at c.args.points.now c.args.nodes.now _ _ (ap (λ (f : record { 0 : Bor (List Float) }). f.0.now) c.map.ensures.closure) (ap iter_rest c.map.ensures.source ∙ c.iter.ensures.rest)) (fits (step (begun c.args.w.now.out.now c.args.w.now.at c.args.class c.args.points.now c.args.nodes.now) c.put_open.ensures.put) c.requires),
    (search of_calls, (search of_calls, YieldsList-from_map _ (point_at (map_callee c.map.result).0.now) (YieldsList-from_slice (iter_rest (map_source c.map.result)) refl) refl (λ x r q h. search (rules, tests)))),
  ),
)

pub bytes-requires : goal.bytes-requires
bytes-requires c =
    fits (step (step (begun c.args.w.now.out.now c.args.w.now.at c.args.class c.args.points.now c.args.nodes.now) c.put_open.ensures.put) (put_same (line_at c.args.points.now c.args.nodes.now _ _ (ap (λ (f : record { 0 : Bor (List Float) }). f.0.now) c.map.ensures.closure) (ap iter_rest c.map.ensures.source ∙ c.iter.ensures.rest)) c.put_ring.ensures.put)) c.requires

pub returns-clause-put : goal.returns-clause-put
returns-clause-put c =
    done (step (step (step (begun c.args.w.now.out.now c.args.w.now.at c.args.class c.args.points.now c.args.nodes.now) c.put_open.ensures.put) (put_same (line_at c.args.points.now c.args.nodes.now _ _ (ap (λ (f : record { 0 : Bor (List Float) }). f.0.now) c.map.ensures.closure) (ap iter_rest c.map.ensures.source ∙ c.iter.ensures.rest)) c.put_ring.ensures.put)) c.bytes.ensures.put)
