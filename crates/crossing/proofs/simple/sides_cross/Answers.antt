-- `crossing::simple::sides_cross` meets its contract.
use mathlib.Core.Path.{◌≡◌, refl, ◌∙◌, sym}
use Prim.Native.Nat.{◌-◌}
use mathlib.Core.Bool.{false}
use native.Mathlib.Omega.{arith}
use Rattle.geometry.specs.Rings.{Ring}
use Rattle.crossing.proofs.Searching.{pair_tested, side_begun, side_closed, side_done, last_two, found, found_closing, none_yet}
use Rattle.crossing.proofs.simple.sides_cross.Goals as goal

pub sides-init : goal.sides-init
sides-init g c = (refl, none_yet _)

pub loop-j-init : goal.loop-j-init
loop-j-init g c =
    let s = c.sides in
    (s.invariant.0, side_begun (g.R.Ring.ring c.args.ring.now) s.i (omega (arith, c.size-n.ensures)) s.invariant.1, rw c.at.ensures at c.right_of-right.ensures)

pub cross_between-requires : goal.cross_between-requires
cross_between-requires g c =
    (rw (← c.at-c.ensures) at c.loop-j.invariant.2, c.right_of-right_d.ensures)

pub loop-j-preserved : goal.loop-j-preserved
loop-j-preserved g c =
    let t = c.loop-j in
    let pair = pair_tested (g.R.Ring.ring c.args.ring.now) c.sides.i t.j (omega arith) (omega (arith, c.size-n.ensures)) t.invariant.1 c.cross_between.ensures c.at-a.ensures c.at-b.ensures c.at-c.ensures c.at-d.ensures in
    (t.invariant.0, pair ∙ c.if-cross_between.false, rw c.at-d.ensures at c.right_of-right_d.ensures)

pub returns-then-cross_between : goal.returns-then-cross_between
returns-then-cross_between g c =
    let t = c.loop-j in
    let r : Ring = g.R.Ring.ring c.args.ring.now in
    let size = c.size-n.ensures in
    let pair = pair_tested r c.sides.i t.j (omega arith) (omega (arith, size)) t.invariant.1 c.cross_between.ensures c.at-a.ensures c.at-b.ensures c.at-c.ensures c.at-d.ensures in
    found r c.sides.i t.j (omega arith) (omega (arith, size)) (pair ∙ c.if-cross_between.true)

pub sides-preserved : goal.sides-preserved
sides-preserved g c =
    let t = c.loop-j in
    let r : Ring = g.R.Ring.ring c.args.ring.now in
    let size = c.size-n.ensures in
    let e : t.j ≡ r.size - 1 = omega (arith, size) in
    let whole = side_closed r c.sides.i c.crosses_closing.result (omega (arith, size)) c.crosses_closing.ensures (rw e at t.invariant.1) in
    (t.invariant.0, side_done r c.sides.i false (omega (arith, size)) (whole ∙ c.if-crosses_closing.false))

pub returns-then-crosses_closing : goal.returns-then-crosses_closing
returns-then-crosses_closing g c =
    let t = c.loop-j in
    let r : Ring = g.R.Ring.ring c.args.ring.now in
    let size = c.size-n.ensures in
    let e : t.j ≡ r.size - 1 = omega (arith, size) in
    let whole = side_closed r c.sides.i c.crosses_closing.result (omega (arith, size)) c.crosses_closing.ensures (rw e at t.invariant.1) in
    found_closing r c.sides.i (omega (arith, size)) (whole ∙ c.if-crosses_closing.true)

pub returns-after-sides : goal.returns-after-sides
returns-after-sides g c =
    let s = c.sides in
    s.invariant.0 ∙ sym (last_two (g.R.Ring.ring c.args.ring.now) s.i (omega (arith, c.size-n.ensures)) s.invariant.1)
