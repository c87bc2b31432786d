use mathlib.Core.Path.{◌≡◌, refl}
use native.Mathlib.Omega.{arith}
use Rattle.geometry.specs.Rings.{Ring}
use Rattle.placing.specs.Placed as laid
use Rattle.planning.specs.Backwards.{read_ring}
use Rattle.placing.proofs.Placing.{placed_step, count_step, room}
use Rattle.placing.proofs.place.place.Goals as goal

pub loop-i-init : goal.loop-i-init
unfolding laid.placed
loop-i-init c = (refl, refl)

pub overflow_add-at : goal.overflow_add-at
overflow_add-at c =
    let l = c.loop-i in
    let fits = room c.args.spacing.h c.args.spacing.corner_margin (read_ring c.args.ring) l.i l.placed c.loop-i-test.true l.invariant.0 in
    omega (arith, fits, c.requires.n_bound_2.0)

pub place_side-placed-requires-clause-i_bound : goal.place_side-placed-requires-clause-i_bound
place_side-placed-requires-clause-i_bound c =
    let l = c.loop-i in
    let fits = room c.args.spacing.h c.args.spacing.corner_margin (read_ring c.args.ring) l.i l.placed c.loop-i-test.true l.invariant.0 in
    (omega (arith, fits, c.requires.n_bound_2.0), omega arith)

pub overflow_add-placed : goal.overflow_add-placed
overflow_add-placed c =
    let r : Ring = read_ring c.args.ring in
    let l = c.loop-i in
    let fits = room c.args.spacing.h c.args.spacing.corner_margin r l.i l.placed c.loop-i-test.true l.invariant.0 in
    omega (arith, fits, c.place_side-placed.ensures.0, c.requires.n_bound_2.0)

pub loop-i-preserved : goal.loop-i-preserved
loop-i-preserved c =
    let r : Ring = read_ring c.args.ring in
    let l = c.loop-i in
    let more = c.place_side-placed.ensures in (
      count_step c.args.spacing.h c.args.spacing.corner_margin r l.i _ _ l.invariant.0 more.0,
      placed_step c.args.spacing.h c.args.spacing.corner_margin r l.i c.args.at l.placed _ _ _ l.invariant.0 l.invariant.1 more.1,
    )

pub returns : goal.returns
returns c =
    let e : c.loop-i.i ≡ c.args.ring.n = omega arith in
    rw e at c.loop-i.invariant.1
