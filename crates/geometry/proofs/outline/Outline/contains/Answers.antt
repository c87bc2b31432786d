-- `geometry::outline::Outline::contains` meets its contract: an outline of one loop is its ring; otherwise the outer loop and the holes are asked in turn.
use mathlib.Core.Path.{sym, ap}
use mathlib.Core.List.{List}
use native.Mathlib.Omega.{arith}
use Rattle.geometry.specs.Rings.{Ring}
use Rattle.geometry.specs.Domain.{contains}
use Rattle.geometry.proofs.Loops.{contains_one, first_loop, held, no_loops_from, no_rings, only_loop, outside, room_behind, room_first}
use Rattle.geometry.proofs.outline.Outline.contains.Goals as goal

pub returns-in_default : goal.returns-in_default
unfolding contains
returns-in_default c =
    let none = no_loops_from c.args.self.now.loop_lengths.now 0 (omega (arith, c.in_default.ensures.cases)) in
    sym (ap (λ (rs : List Ring). contains rs c.args.p) (no_rings _ _ none))

pub invariant_of-ring : goal.invariant_of-ring
invariant_of-ring c = record { fits = room_first _ (first_loop c.in-Some.ensures.cases c.from-n.ensures) c.args.self.now.fits }

pub invariant_of-ring-2 : goal.invariant_of-ring-2
invariant_of-ring-2 c = record { fits = room_first _ (first_loop c.in-Some.ensures.cases c.from-n.ensures) c.args.self.now.fits }

pub invariant_of-behind : goal.invariant_of-behind
invariant_of-behind c = record { fits = room_behind _ (first_loop c.in-Some.ensures.cases c.from-n.ensures) c.args.self.now.fits c.rest.ensures }

pub returns-then-is_empty : goal.returns-then-is_empty
returns-then-is_empty c =
    let first = first_loop c.in-Some.ensures.cases c.from-n.ensures in
    contains_one _ (only_loop _ first c.is_empty.ensures c.if-is_empty.true) _ _ c.in_polygon.ensures

pub returns-then-in_polygon : goal.returns-then-in_polygon
returns-then-in_polygon c =
    held _ (first_loop c.in-Some.ensures.cases c.from-n.ensures) c.args.self.now.fits c.rest.ensures _ _ _ c.in_polygon-2.ensures c.if-in_polygon.true c.some_holds.ensures

pub returns : goal.returns
returns c =
    outside _ (first_loop c.in-Some.ensures.cases c.from-n.ensures) c.args.self.now.fits _ _ c.in_polygon-2.ensures c.if-in_polygon.false
