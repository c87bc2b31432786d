use mathlib.Core.Path.{sym, ◌∙◌}
use Prim.Native.Nat.{◌+◌}
use native.Mathlib.Nat.{pow-suc}
use native.Mathlib.Numerals.{add-one}
use native.Mathlib.Omega.{arith}
use Rattle.text.proofs.FieldLaws.{part_is, part_long}
use Rattle.text.proofs.HexLaws.{hex_next, hex_end, small_hex}
use Rattle.text.proofs.hexadecimal.hex.Goals as goal

pub overflow_mul-value : goal.overflow_mul-value
overflow_mul-value c =
    let l = part_long c.args.text.now c.args.at (c.args.at + 16) (omega arith) c.requires in
    omega (arith, small_hex c.loop-digit.digit-index c.loop-digit.value (omega arith) c.loop-digit.invariant.0)

pub overflow_add-value : goal.overflow_add-value
overflow_add-value c =
    let l = part_long c.args.text.now c.args.at (c.args.at + 16) (omega arith) c.requires in
    omega (arith, small_hex c.loop-digit.digit-index c.loop-digit.value (omega arith) c.loop-digit.invariant.0)

pub loop-digit-preserved : goal.loop-digit-preserved
loop-digit-preserved c =
    let i = c.loop-digit.digit-index in
    let p = pow-suc 16 i in (
      rw (add-one, p) (omega arith),
      c.loop-digit.invariant.1 ∙ hex_next _ i c.loop-digit.value c.hex_value.result c.loop-digit-test.true c.hex_value.ensures.0,
    )

pub returns : goal.returns
returns c =
    let s = part_is c.args.text.now c.args.at (c.args.at + 16) (omega arith) in
    sym (rw (← s) (c.loop-digit.invariant.1 ∙ hex_end _ c.loop-digit.digit-index c.loop-digit.value c.loop-digit-test.false))
