use mathlib.Core.Path.{sym, ◌∙◌}
use mathlib.Core.Logic.{inl, inr}
use native.Mathlib.Nat.{pow-suc}
use native.Mathlib.Numerals.{add-one}
use native.Mathlib.Omega.{arith}
use Rattle.text.proofs.Spelling.{place_spelled, place_other, all_spelled, small_power}
use Rattle.text.proofs.numbers.spelled.Goals as goal

pub returns-then-not-is_ascii_digit : goal.returns-then-not-is_ascii_digit
returns-then-not-is_ascii_digit c =
    let other = place_other c.args.digits.now c.loop-digit.digit-index c.loop-digit.value c.loop-digit-test.true (λ d. let from = d.from in let to = d.to in elim c.if-not-is_ascii_digit.ensures.cases [ inl h ↦ omega arith | inr h ↦ omega arith ]) in
    sym (c.loop-digit.invariant.1 ∙ other)

pub overflow_mul-value : goal.overflow_mul-value
overflow_mul-value c = omega (arith, small_power c.loop-digit.digit-index (omega arith))

pub overflow_add-value : goal.overflow_add-value
overflow_add-value c =
    let e = c.if-not-is_ascii_digit.ensures.cases in
    omega (arith, small_power c.loop-digit.digit-index (omega arith))

pub loop-digit-preserved : goal.loop-digit-preserved
loop-digit-preserved c =
    let i = c.loop-digit.digit-index in
    let p = pow-suc 10 i in
    let e = c.if-not-is_ascii_digit.ensures.cases in (
      rw (add-one, p) (omega arith),
      c.loop-digit.invariant.1 ∙ place_spelled c.args.digits.now i c.loop-digit.value c.loop-digit-test.true (record { from = e.0; to = e.1 }) ∙ rw (sym c.from.ensures),
    )

pub returns : goal.returns
returns c = sym (c.loop-digit.invariant.1 ∙ all_spelled c.args.digits.now c.loop-digit.digit-index c.loop-digit.value (omega arith))
