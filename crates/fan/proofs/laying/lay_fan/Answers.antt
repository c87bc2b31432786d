use mathlib.Core.Path.{refl, sym}
use Rattle.fan.proofs.OneFront.{front_fits, front_long, front_below}
use Rattle.fan.proofs.Writing.{laid_is_lem}
use Rattle.fan.proofs.laying.lay_fan.Goals as goal

pub slice_bounds-fan-end-3 : goal.slice_bounds-fan-end-3
slice_bounds-fan-end-3 c = front_fits _ c.requires.sound c.requires.room.front _ c.from-n.ensures

pub slice_bounds-fan-end-4 : goal.slice_bounds-fan-end-4
slice_bounds-fan-end-4 c = sym (front_long _ c.requires.sound c.requires.room.front _ c.from-n.ensures)

pub invariant_of-fan : goal.invariant_of-fan
invariant_of-fan c = record { named = front_below _ c.requires.sound c.requires.room.front _ c.from-n.ensures }

pub returns-clause-laid : goal.returns-clause-laid
returns-clause-laid c =
    laid_is_lem _ c.requires.sound c.requires.clean c.requires.room _ c.from-n.ensures c.args.p c.put_point.ensures c.put_fan.ensures (c.fill.ensures.after (λ y e. e)) (c.fill-2.ensures.after (λ y e. e)) refl
