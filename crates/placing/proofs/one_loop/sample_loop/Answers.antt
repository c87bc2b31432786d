-- `placing::one_loop::sample_loop` meets its contract: of the points given or of those kept, the one sampling of kept points.
use mathlib.Core.Path.{sym}
use Prim.Native.Nat.{◌*◌, ◌≤◌}
use native.Mathlib.Omega.{arith}
use lib.ListN.{length}
use lib.Seq.{length-take-le}
use Rattle.geometry.specs.Rings.{ring_of}
use Rattle.state.proofs.Stores.{front_part}
use Rattle.placing.proofs.one_loop.sample_loop.Goals as goal

pub slice_bounds-sample_kept-end : goal.slice_bounds-sample_kept-end
slice_bounds-sample_kept-end c =
    sym (length-take-le _ _ c.args.given.now.fits)

pub returns-then-all_apart : goal.returns-then-all_apart
returns-then-all_apart c =
    c.sample_kept.ensures (ring_of c.args.given.now.pts.now c.args.given.now.n) (c.all_apart.ensures c.if-all_apart.true)

pub slice_bounds-sample_kept-end-3 : goal.slice_bounds-sample_kept-end-3
slice_bounds-sample_kept-end-3 c =
    sym (length-take-le _ _ (omega (arith, c.keep_points-kept.ensures.0, c.keep_points-kept.auto.kept, c.requires.n_bound.1)))

pub returns : goal.returns
returns c =
    let keep = c.keep_points-kept in
    let fits : keep.result * 2 ≤ length c.args.buffer.now = omega (arith, keep.ensures.0, c.requires.n_bound.1) in
    c.sample_kept-2.ensures (ring_of c.args.given.now.pts.now c.args.given.now.n) (front_part c.args.buffer.now _ _ _ fits keep.ensures.1 keep.ensures.2)
