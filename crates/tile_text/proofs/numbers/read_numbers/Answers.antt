use mathlib.Core.Path.{◌∙◌}
use Prim.Native.Nat.{◌+◌}
use native.Mathlib.Omega.{arith}
use Rattle.text.proofs.FieldLaws.{end_within}
use Rattle.tile_text.proofs.Going.{unlike_end, unlike_other}
use Rattle.tile_text.proofs.Numbering.{left_step, left_done}
use Rattle.tile_text.proofs.numbers.read_numbers.Goals as goal

pub returns-then-text-next-ne9 : goal.returns-then-text-next-ne9
returns-then-text-next-ne9 c =
    let l = c.loop-next in
    left_done _ _ _ _ l.nodes l.next l.count l.invariant.1 (unlike_other _ l.next 9 c.loop-next-test.true c.if-text-next-ne9.true)

pub number_in-requires : goal.number_in-requires
number_in-requires c =
    let w = end_within c.args.text.now (c.loop-next.next + 1) (omega arith) in
    let e = c.field_end-end.ensures in
    (omega arith, omega arith)

pub loop-next-smaller : goal.loop-next-smaller
loop-next-smaller c =
    let w = end_within c.args.text.now (c.loop-next.next + 1) (omega arith) in
    let e = c.field_end-end.ensures in
    omega arith

pub loop-next-preserved : goal.loop-next-preserved
loop-next-preserved c =
    let l = c.loop-next in (
      c.store.auto.numbers ∙ l.invariant.0,
      left_step _ _ _ _ l.nodes l.next l.count l.invariant.1 c.loop-next-test.true c.if-text-next-ne9.false c.field_end-end.result c.number_in.result c.field_end-end.ensures c.number_in.ensures _ (λ small. c.store.ensures),
    )

pub returns : goal.returns
returns c =
    let l = c.loop-next in
    left_done _ _ _ _ l.nodes l.next l.count l.invariant.1 (unlike_end _ l.next 9 c.loop-next-test.false)
