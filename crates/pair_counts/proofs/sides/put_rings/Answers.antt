use mathlib.Core.Path.{◌≡◌}
use mathlib.Core.List.{List}
use Prim.Native.Nat.{ℕ, ◌+◌, ◌-◌, ◌<◌, ◌≤◌}
use native.Mathlib.Omega.{arith}
use lib.ListN.{length, get_or, take}
use Rattle.geometry.specs.Domain.{sum_of}
use Rattle.pair_counts.specs.Sides.{lower, higher}
use Rattle.pair_counts.proofs.Filling.{sum_none, rings-start, Next, ring_within, ring_long, start_more, rings_step}
use Rattle.pair_counts.proofs.sides.put_rings.Goals as goal

-- the ring that is written next
next_ring : {lengths nodes : List ℕ} {i start n : ℕ} → i < length lengths → sum_of lengths ≤ length nodes → start ≡ sum_of (take i lengths) → n ≡ get_or lengths i 0
    → Next lengths nodes i start n (start + n - start)
next_ring within fits starts is = record { within = within; fits = fits; starts = starts; is = is; size = omega arith }

pub loop-n-init : goal.loop-n-init
loop-n-init c =
    let lengths = c.args.rings.now.lengths.now in
    let nodes = c.args.rings.now.nodes.now in
    (sum_none, rings-start lower lengths nodes c.args.lows.now c.args.at, rings-start higher lengths nodes c.args.highs.now c.args.at)

pub overflow_add-end : goal.overflow_add-end
overflow_add-end c =
    let w = ring_within (next_ring c.loop-n-test.true c.args.rings.now.fits c.loop-n.invariant.0 c.from.ensures) in omega arith

pub overflow_add-at : goal.overflow_add-at
overflow_add-at c =
    let w = ring_within (next_ring c.loop-n-test.true c.args.rings.now.fits c.loop-n.invariant.0 c.from.ensures) in omega arith

pub offset_bounds-rings-start : goal.offset_bounds-rings-start
offset_bounds-rings-start c =
    let w = ring_within (next_ring c.loop-n-test.true c.args.rings.now.fits c.loop-n.invariant.0 c.from.ensures) in omega arith

pub slice_bounds-put_ring-end : goal.slice_bounds-put_ring-end
slice_bounds-put_ring-end c =
    let w = ring_within (next_ring c.loop-n-test.true c.args.rings.now.fits c.loop-n.invariant.0 c.from.ensures) in omega arith

pub put_ring-requires : goal.put_ring-requires
put_ring-requires c =
    let next = next_ring c.loop-n-test.true c.args.rings.now.fits c.loop-n.invariant.0 c.from.ensures in
    let w = ring_within next in
    let r = ring_long next in
    (omega arith, omega arith)

pub loop-n-preserved : goal.loop-n-preserved
loop-n-preserved c =
    let next = next_ring c.loop-n-test.true c.args.rings.now.fits c.loop-n.invariant.0 c.from.ensures in
    let l = c.loop-n in
    let at = c.args.at in (
      start_more next,
      rings_step next lower l.lows c.args.lows.now _ at l.invariant.1 c.put_ring.ensures.lows_after,
      rings_step next higher l.highs c.args.highs.now _ at l.invariant.2 c.put_ring.ensures.highs_after,
    )
