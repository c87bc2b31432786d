use mathlib.Core.Path.{◌≡◌, refl}
use native.Mathlib.Omega.{arith}
use Rattle.geometry.specs.Rings.{ring_of}
use Rattle.planning.specs.Ring as rings
use Rattle.planning.proofs.Keeping.{keep_step}
use Rattle.planning.proofs.keep.keep_points.Goals as goal

pub loop-k-init : goal.loop-k-init
unfolding rings.kept
loop-k-init c = record { within = omega arith; many = refl; written = refl }

pub loop-k-preserved : goal.loop-k-preserved
loop-k-preserved c =
    let l = c.loop-k in
    let s = keep_step _ (ring_of c.args.given.now.pts.now c.args.given.now.n) c.args.kept.now _ _ l.k l.m _ _ l.invariant.many l.invariant.written (omega arith) c.at.ensures c.keep_point-m.ensures.0 c.keep_point-m.ensures.1 in
    record { within = omega (arith, s.2); many = s.0; written = s.1 }

pub returns : goal.returns
returns c =
    let e : c.loop-k.k ≡ c.args.given.now.n = omega arith in
    (omega arith, rw (e, c.closeness-limit.ensures) at c.loop-k.invariant.many, rw (e, c.closeness-limit.ensures) at c.loop-k.invariant.written)
