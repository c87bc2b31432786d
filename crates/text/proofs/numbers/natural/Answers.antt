-- `text::numbers::natural` meets its contract: each test decides what the field is, and where all pass it is the writing of what it spells.
use mathlib.Core.Path.{◌≡◌, sym, ◌∙◌}
use native.Mathlib.Omega.{arith}
use borrow.Author.Tests.{lt-leb, le-leb, eqb-true, eqb-false}
use Prim.Native.Nat.{◌-◌}
use lib.ListN.{length, get_or, take, drop}
use Rattle.text.proofs.FieldLaws.{part_is}
use Rattle.text.proofs.Spelling.{empty_none, long_none, zero_none, odd_none, spelled_number}
use Rattle.text.proofs.numbers.natural.Goals as goal

pub returns-then-is_empty : goal.returns-then-is_empty
returns-then-is_empty c =
    let f = part_is c.args.text.now c.args.at c.args.end c.requires.0 in
    rw (← f) (sym (empty_none c.args.most _ (eqb-true _ 0 (sym c.if-is_empty.ensures))))

pub returns-then-field-gt7 : goal.returns-then-field-gt7
returns-then-field-gt7 c =
    let f = part_is c.args.text.now c.args.at c.args.end c.requires.0 in
    rw (← f) (sym (long_none c.args.most _ c.requires.2 c.if-field-gt7.true))

pub returns-then-field-ne1 : goal.returns-then-field-ne1
returns-then-field-ne1 c =
    let f = part_is c.args.text.now c.args.at c.args.end c.requires.0 in
    rw (← f) (sym (zero_none c.args.most _ c.requires.2 c.if-field-eq48.true c.if-field-ne1.true))

pub returns-in_err-value : goal.returns-in_err-value
returns-in_err-value c =
    let f = part_is c.args.text.now c.args.at c.args.end c.requires.0 in
    rw (c.from_residual.ensures, ← f) (sym (odd_none c.args.most _ (sym c.in_err-value.ensures)))

pub returns-then-most-value : goal.returns-then-most-value
returns-then-most-value c =
    let f = part_is c.args.text.now c.args.at c.args.end c.requires.0 in
    let some_byte = eqb-false _ 0 (sym c.if-is_empty.ensures) in
    let alone : get_or (take (c.args.end - c.args.at) (drop c.args.at c.args.text.now)) 0 0 ≡ 48 → length (take (c.args.end - c.args.at) (drop c.args.at c.args.text.now)) ≡ 1 = grind arith in
    let found = spelled_number c.args.most _ (omega (arith, some_byte)) (omega arith) alone (sym c.in_ok-value.ensures) in
    rw (← f) (sym (found ∙ rw (lt-leb _ _ c.if-most-value.true)))

pub returns : goal.returns
returns c =
    let f = part_is c.args.text.now c.args.at c.args.end c.requires.0 in
    let some_byte = eqb-false _ 0 (sym c.if-is_empty.ensures) in
    let alone : get_or (take (c.args.end - c.args.at) (drop c.args.at c.args.text.now)) 0 0 ≡ 48 → length (take (c.args.end - c.args.at) (drop c.args.at c.args.text.now)) ≡ 1 = grind arith in
    let found = spelled_number c.args.most _ (omega (arith, some_byte)) (omega arith) alone (sym c.in_ok-value.ensures) in
    rw (← f) (sym (found ∙ rw (le-leb _ _ c.if-most-value.false)))
