-- `geometry::outline::Outline::area` meets its contract: an outline of one loop is its ring; otherwise the holes' areas are taken off.
use mathlib.Core.Path.{ap, sym, ◌∙◌}
use native.Mathlib.Omega.{arith}
use Rattle.float.proofs.Literals.{zero_is}
use Rattle.geometry.specs.Domain.{domain_area}
use Rattle.geometry.proofs.Loops.{area_of, area_one, first_loop, no_loops_from, no_rings, only_loop, room_behind, room_first}
use Rattle.geometry.proofs.outline.Outline.area.Goals as goal

pub returns-in_default : goal.returns-in_default
unfolding domain_area
returns-in_default c =
    let none = no_loops_from c.args.self.now.loop_lengths.now 0 (omega (arith, c.in_default.ensures.cases)) in
    zero_is ∙ sym (ap domain_area (no_rings _ _ none))

pub invariant_of-ring : goal.invariant_of-ring
invariant_of-ring c = record { fits = room_first _ (first_loop c.in-Some.ensures.cases c.from-n.ensures) c.args.self.now.fits }

pub invariant_of-behind : goal.invariant_of-behind
invariant_of-behind c = record { fits = room_behind _ (first_loop c.in-Some.ensures.cases c.from-n.ensures) c.args.self.now.fits c.rest.ensures }

pub returns-then-is_empty : goal.returns-then-is_empty
returns-then-is_empty c =
    let first = first_loop c.in-Some.ensures.cases c.from-n.ensures in
    area_one _ (only_loop _ first c.is_empty.ensures c.if-is_empty.true) _ c.signed_area-outer.ensures

pub returns : goal.returns
returns c =
    area_of _ (first_loop c.in-Some.ensures.cases c.from-n.ensures) c.args.self.now.fits c.rest.ensures _ _ c.signed_area-outer.ensures c.areas.ensures
