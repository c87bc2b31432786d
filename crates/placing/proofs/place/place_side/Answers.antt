-- `placing::place::place_side` meets its contract: a side that gets no inner points, and any other.
use native.Mathlib.Omega.{arith}
use Rattle.planning.specs.Backwards.{read_ring}
use Rattle.planning.proofs.Planning.{inner_is}
use Rattle.placing.proofs.Placing.{bare_side, long_side, parts_found}
use Rattle.placing.proofs.place.place_side.Goals as goal

pub parts_of-parts-requires : goal.parts_of-parts-requires
parts_of-parts-requires c =
    let inner-found = inner_is _ _ (read_ring c.args.ring) c.args.i _ _ c.requires.n_bound.2 c.inner_of.ensures in
    omega (arith, inner-found, c.requires.i_value, c.requires.i_bound.0)

pub returns-then-parts-eq0 : goal.returns-then-parts-eq0
returns-then-parts-eq0 c =
    let parts-found = parts_found _ _ (read_ring c.args.ring) c.args.i _ c.requires.n_bound.2 c.inner_of.ensures c.parts_of-parts.ensures c.requires.i_value in
    bare_side c.args.spacing.h c.args.spacing.corner_margin (read_ring c.args.ring) c.args.i c.args.at _ _ c.args.points.now _ parts-found c.if-parts-eq0.true c.at-a.ensures c.put_point.ensures

pub invariant_of-side : goal.invariant_of-side
invariant_of-side c =
    let parts-found = parts_found _ _ (read_ring c.args.ring) c.args.i _ c.requires.n_bound.2 c.inner_of.ensures c.parts_of-parts.ensures c.requires.i_value in
    record { few = omega (arith, parts-found, c.requires.i_bound.0) }

pub place-requires : goal.place-requires
place-requires c =
    let parts-found = parts_found _ _ (read_ring c.args.ring) c.args.i _ c.requires.n_bound.2 c.inner_of.ensures c.parts_of-parts.ensures c.requires.i_value in
    omega (arith, parts-found, c.requires.i_bound.0, c.requires.i_bound.1, c.put_point.auto.pts)

pub overflow_add-result : goal.overflow_add-result
overflow_add-result c =
    let parts-found = parts_found _ _ (read_ring c.args.ring) c.args.i _ c.requires.n_bound.2 c.inner_of.ensures c.parts_of-parts.ensures c.requires.i_value in
    omega (arith, parts-found, c.requires.i_bound.0)

pub returns : goal.returns
returns c =
    let parts-found = parts_found _ _ (read_ring c.args.ring) c.args.i _ c.requires.n_bound.2 c.inner_of.ensures c.parts_of-parts.ensures c.requires.i_value in
    long_side c.args.spacing.h c.args.spacing.corner_margin (read_ring c.args.ring) c.args.i _ c.args.at _ _ _ _ _ _ c.args.points.now _ _ c.requires.n_bound.1 c.next_of.ensures.value c.at-a.ensures c.at-b.ensures c.margin_at-margin.ensures c.requires.n_bound.2 parts-found c.put_point.ensures c.place.ensures
