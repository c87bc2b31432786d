use mathlib.Core.Path.{◌≡◌, sym, ◌∙◌, ap}
use mathlib.Core.Bool.{◌&&◌}
use Prim.Native.Nat.{ℕ}
use native.Mathlib.Omega.{arith}
use lib.ListN.{get_or}
use Rattle.rules.specs.Checks.{every}
use Rattle.geometry.specs.Rings.{point_at}
use Rattle.geometry.proofs.Flip.{length_flip}
use Rattle.state.proofs.Basics.{and_false}
use Rattle.rules.proofs.Every.{every_none, every_more, every_stops, every_end, too_near, far_enough}
use Rattle.pairs.proofs.Sides.{next_inner}
use Rattle.row_checks.proofs.Sides.{long_enough, corners_good, side_of, corners_of}
use Rattle.row_checks.proofs.quads.all_quads_stand.Goals as goal

pub loop-i-init : goal.loop-i-init
loop-i-init c = (every_none _, every_none _, c.side_length-rung.ensures, λ l. (c.at-a.ensures, c.at-d.ensures))

pub returns-then-new_side-least : goal.returns-then-new_side-least
returns-then-new_side-least c =
    let a = c.args in
    let l = c.loop-i-test.true in
    let w = c.loop-i.invariant.3 l in
    let s = side_of a.row.now.pts.now a.row.now.n c.loop-i.i c.side_length-new_side.ensures w.1 c.at-c.ensures c.next_of-after.ensures.value in
    ap (λ b. b && every (corners_good a.limit a.old.now.pts.now a.old.now.nodes.now a.row.now.pts.now a.row.now.n) a.row.now.n)
    (every_stops (long_enough a.least a.row.now.pts.now a.row.now.n) c.loop-i.i a.row.now.n l (too_near a.least s c.if-new_side-least.true))

pub corners_pass_with-requires : goal.corners_pass_with-requires
corners_pass_with-requires c = (
  c.side_length-old_side.ensures,
  c.side_length-next_rung.ensures,
  c.side_length-new_side.ensures ∙ length_flip _ _,
  c.loop-i.invariant.2 ∙ length_flip _ _,
)

pub returns-then-not-corners_pass_with : goal.returns-then-not-corners_pass_with
returns-then-not-corners_pass_with c =
    let a = c.args in
    let l = c.loop-i-test.true in
    let w = c.loop-i.invariant.3 l in
    let q = corners_of a.limit a.old.now.pts.now a.row.now.pts.now a.old.now.nodes.now a.row.now.n c.loop-i.i c.corners_pass_with.ensures w.0 c.at-b.ensures c.at-c.ensures w.1 c.next_of-after.ensures.value (c.if-not-corners_pass_with.true) in
    let e = every_stops (corners_good a.limit a.old.now.pts.now a.old.now.nodes.now a.row.now.pts.now a.row.now.n) c.loop-i.i a.row.now.n l q in
    sym (and_false (every (long_enough a.least a.row.now.pts.now a.row.now.n) a.row.now.n)) ∙ ap (λ b. every (long_enough a.least a.row.now.pts.now a.row.now.n) a.row.now.n && b) e

pub loop-i-preserved : goal.loop-i-preserved
loop-i-preserved c =
    let a = c.args in
    let l = c.loop-i-test.true in
    let w = c.loop-i.invariant.3 l in
    let next-is = c.next_of-after.ensures.value in
    let b-is = c.at-b.ensures in
    let c-is = c.at-c.ensures in
    let s = side_of a.row.now.pts.now a.row.now.n c.loop-i.i c.side_length-new_side.ensures w.1 c-is next-is in
    let q = corners_of a.limit a.old.now.pts.now a.row.now.pts.now a.old.now.nodes.now a.row.now.n c.loop-i.i c.corners_pass_with.ensures w.0 b-is c-is w.1 next-is (c.if-not-corners_pass_with.false) in (
      every_more (long_enough a.least a.row.now.pts.now a.row.now.n) c.loop-i.i c.loop-i.invariant.0 (far_enough a.least s c.if-new_side-least.false),
      every_more (corners_good a.limit a.old.now.pts.now a.old.now.nodes.now a.row.now.pts.now a.row.now.n) c.loop-i.i c.loop-i.invariant.1 q,
      c.side_length-next_rung.ensures,
      λ m. let e = next_inner a.row.now.n c.loop-i.i l next-is m in
          (b-is ∙ ap (λ (k : ℕ). point_at a.old.now.pts.now (get_or a.old.now.nodes.now k 0)) e, c-is ∙ ap (point_at a.row.now.pts.now) e),
    )

pub returns : goal.returns
returns c =
    let a = c.args in
    let e : c.loop-i.i ≡ a.row.now.n = omega arith in
    every_end (corners_good a.limit a.old.now.pts.now a.old.now.nodes.now a.row.now.pts.now a.row.now.n) c.loop-i.i a.row.now.n c.loop-i.invariant.1 e
    ∙ ap (λ b. b && every (corners_good a.limit a.old.now.pts.now a.old.now.nodes.now a.row.now.pts.now a.row.now.n) a.row.now.n) (every_end (long_enough a.least a.row.now.pts.now a.row.now.n) c.loop-i.i a.row.now.n c.loop-i.invariant.0 e)
