use native.Mathlib.Omega.{arith}
use Prim.Native.Nat.{◌+◌, ◌*◌}
use mathlib.Core.Path.{◌≡◌, ap, ◌∙◌}
use lib.ListN.{length, length-drop}
use Rattle.tile_text.proofs.Pointing.{left_line, next_line, left_other, left_short}
use Rattle.tile_text.proofs.points.read_points.Goals.{in-None, in-Some+then-line-ne112}
use Rattle.tile_text.proofs.points.read_points.Goals as goal

pub loop-line-preserved : goal.loop-line-preserved
loop-line-preserved c =
    let l = c.loop-line in
    let at = c.args.at in
    let next = at + l.count * 36 in
    let step = c.in-Some.ensures.steps in
    let there = l.invariant.2 ∙ step.1.0 in
    let long = step.1.1 ∙ l.invariant.0 in
    let n : next + 36 ≡ at + (l.count + 1) * 36 = omega arith in (
      step.0 ∙ l.invariant.0,
      c.store_point.auto.coords ∙ l.invariant.1,
      rw n at (next_line _ at _ l.points next l.count l.invariant.3 _ _ there long),
      rw n at (left_line _ at _ l.points next l.count l.invariant.3 _ _ there long c.if-line-ne112.false _ _ _ _ c.hex.ensures c.coordinate-x.ensures c.hex-in-loop-line.ensures c.coordinate-y.ensures _ c.store_point.ensures),
    )

pub returns : goal.returns
returns c =
    let l = c.loop-line in
    let next = c.args.at + l.count * 36 in
    elim c.match-next.branch [
      | in-None w ↦
          let few = w.in-None.ensures.steps.1.0 in
          let left = ap length l.invariant.2 in
          let behind = length-drop next c.args.text.now in
          left_short _ _ _ l.points next l.count l.invariant.3 (omega (arith, few, left, behind, l.invariant.0))
      | in-Some+then-line-ne112 w ↦
          let step = w.in-Some.ensures.steps in
          left_other _ _ _ l.points next l.count l.invariant.3 _ _ (l.invariant.2 ∙ step.1.0) (step.1.1 ∙ l.invariant.0) w.if-line-ne112.true
    ]
