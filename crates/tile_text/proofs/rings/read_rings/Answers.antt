use mathlib.Core.Path.{◌∙◌}
use Rattle.std.proofs.Common.{rules}
use Rattle.tile_text.proofs.Going.{unlike_end, unlike_other}
use Rattle.tile_text.proofs.Ringing.{left_step, left_done}
use Rattle.tile_text.proofs.rings.read_rings.Goals as goal

pub returns-then-text-next : goal.returns-then-text-next
returns-then-text-next c =
    let l = c.loop-next in
    left_done _ _ _ _ _ l.nodes l.lengths l.next l.count l.stored l.invariant.2 (unlike_other _ l.next c.args.letter c.loop-next-test.true c.if-text-next.true)

pub loop-next-preserved : goal.loop-next-preserved
loop-next-preserved c =
    let l = c.loop-next in (
      c.read_numbers-line.auto.nodes ∙ l.invariant.0,
      c.store.auto.numbers ∙ l.invariant.1,
      left_step _ _ _ _ _ l.nodes l.lengths l.next l.count l.stored l.invariant.2 c.loop-next-test.true c.if-text-next.false _ c.read_numbers-line.result c.read_numbers-line.ensures _ (λ small. search rules) c.behind_end-next.result c.behind_end-next.ensures,
    )

pub returns : goal.returns
returns c =
    let l = c.loop-next in
    left_done _ _ _ _ _ l.nodes l.lengths l.next l.count l.stored l.invariant.2 (unlike_end _ l.next c.args.letter c.loop-next-test.false)
