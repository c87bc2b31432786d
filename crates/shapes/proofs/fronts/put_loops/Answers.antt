use borrow.Author.Rules.{lives}
use Prim.Native.Nat.{◌+◌}
use native.Mathlib.Omega.{arith}
use lib.ListN.{drop}
use mathlib.Core.Path.{◌≡◌, refl, ◌∙◌}
use mathlib.Core.List.{List}
use lib.Ieee.{Float}
use Rattle.std.proofs.Common.{rules, tests, Bor, ap}
use Rattle.std.proofs.lemmas.Iterator.{YieldsList-from_map, YieldsList-from_range, serves_from_Range}
use Rattle.std.specs.Iterator.Adapters.{map_source, map_callee}
use Rattle.geometry.specs.Rings.{point_at}
use Rattle.state.specs.State.{numbered}
use Rattle.text.proofs.Midst.{begin, more, room, ended, same_rest, put_same}
use Rattle.shapes.specs.Shapes.{ring_text, loops_text}
use Rattle.shapes.proofs.Closed.{line_at, run_at, inside}
use Rattle.shapes.proofs.Turns.{loops-next, loops_end, sum-next}
use Rattle.shapes.proofs.fronts.put_loops.Goals as goal

pub loop-n-init : goal.loop-n-init
loop-n-init c = (omega arith, begin _ _ _, refl)

-- the points of a loop
same_points : {f : record { 0 : Bor (List Float) }} {p : Bor (List Float)} → f ≡ record { 0 = p } → f.0.now ≡ p.now
same_points e = ap (λ (f : record { 0 : Bor (List Float) }). f.0.now) e

pub put_ring-requires-whole : goal.put_ring-requires-whole
put_ring-requires-whole c = λ k.
    let left = sum-next c.args.outline.now.loop_lengths.now c.loop-n.n-index c.from-n.result (omega arith) c.from-n.ensures in
    let points = same_points c.map.ensures.closure in (
      search lives depth 12,
      (
        rw (line_at c.args.outline.now.coords.now (numbered c.loop-n.first c.from-n.result) _ _ points (run_at c.loop-n.first c.from-n.result c.map.ensures.source))
            (room (ring_text c.args.outline.now.coords.now (numbered c.loop-n.first c.from-n.result)) (loops_text c.args.outline.now.coords.now (c.loop-n.first + c.from-n.result) (drop (c.loop-n.n-index + 1) c.args.outline.now.loop_lengths.now))
            (same_rest (loops-next c.args.outline.now.coords.now c.args.outline.now.loop_lengths.now c.loop-n.first c.loop-n.n-index c.from-n.result (omega arith) c.from-n.ensures) c.loop-n.invariant.1) c.requires),
        (
          (tt, serves_from_Range (λ x q h. search (rules, tests)) (λ x low high _ _ _ _ _ _ _ _. inside c.loop-n.first c.from-n.result points c.map.ensures.source (omega arith) high)),
          (tt, YieldsList-from_map _ (point_at (map_callee c.map.result).0.now) (YieldsList-from_range (map_source c.map.result).start (map_source c.map.result).end _ refl refl) refl (λ x r q h. search (rules, tests))),
        ),
      ),
    )

pub loop-n-preserved : goal.loop-n-preserved
loop-n-preserved c =
    let left = sum-next c.args.outline.now.loop_lengths.now c.loop-n.n-index c.from-n.result (omega arith) c.from-n.ensures in
    (omega arith, more (same_rest (loops-next c.args.outline.now.coords.now c.args.outline.now.loop_lengths.now c.loop-n.first c.loop-n.n-index c.from-n.result (omega arith) c.from-n.ensures) c.loop-n.invariant.1) (put_same (line_at c.args.outline.now.coords.now (numbered c.loop-n.first c.from-n.result) _ _ (same_points c.map.ensures.closure) (run_at c.loop-n.first c.from-n.result c.map.ensures.source)) c.put_ring.ensures.put), c.put_ring.ensures.same ∙ c.loop-n.invariant.2)

pub returns-clause-put : goal.returns-clause-put
returns-clause-put c =
    ended (same_rest (loops_end c.args.outline.now.coords.now c.args.outline.now.loop_lengths.now c.loop-n.first c.loop-n.n-index (omega arith)) c.loop-n.invariant.1)

pub returns-clause-same : goal.returns-clause-same
returns-clause-same c = c.loop-n.invariant.2
