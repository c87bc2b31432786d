use mathlib.Core.Path.{◌≡◌, sym, ◌∙◌, ap}
use Prim.Native.Nat.{ℕ, ◌+◌, ◌/◌, ◌<◌, ◌≤◌, ◌^◌}
use native.Mathlib.Omega.{arith}
use lib.ListN.{length}
use Rattle.text.specs.Decimal.{decimal_text}
use Rattle.text.proofs.Digits.{length_one, length_more, length_at_most}
use Rattle.text.proofs.writer.places.Goals as goal

-- one digit more, at a number and at its tenth
more : (n m : ℕ) → m ≡ n / 10 → 10 ≤ n → n < 2 ^ 64 → length (decimal_text n) ≡ length (decimal_text m) + 1
more n m e h g = length_more n h g ∙ ap (λ k. length (decimal_text k) + 1) (sym e)

-- four digits more
four : (n : ℕ) → 10000 ≤ n → n < 2 ^ 64 → length (decimal_text n) ≡ length (decimal_text (n / 10000)) + 4
four n h g =
    let a = more n (n / 10) (omega arith) (omega arith) g in
    let b = more (n / 10) (n / 100) (omega arith) (omega arith) (omega arith) in
    let c = more (n / 100) (n / 1000) (omega arith) (omega arith) (omega arith) in
    let d = more (n / 1000) (n / 10000) (omega arith) (omega arith) (omega arith) in
    omega arith

pub returns-then-n-lt10 : goal.returns-then-n-lt10
returns-then-n-lt10 c = sym (length_one _ c.if-n-lt10.true)

pub returns-then-n-lt100 : goal.returns-then-n-lt100
returns-then-n-lt100 c =
    let n = c.args.n in
    let a = more n (n / 10) (omega arith) (omega arith) (omega arith) in
    let b = length_one (n / 10) (omega arith) in
    omega arith

pub returns-then-n-lt1000 : goal.returns-then-n-lt1000
returns-then-n-lt1000 c =
    let n = c.args.n in
    let a = more n (n / 10) (omega arith) (omega arith) (omega arith) in
    let b = more (n / 10) (n / 100) (omega arith) (omega arith) (omega arith) in
    let z = length_one (n / 100) (omega arith) in
    omega arith

pub returns-then-n-lt10000 : goal.returns-then-n-lt10000
returns-then-n-lt10000 c =
    let n = c.args.n in
    let a = more n (n / 10) (omega arith) (omega arith) (omega arith) in
    let b = more (n / 10) (n / 100) (omega arith) (omega arith) (omega arith) in
    let d = more (n / 100) (n / 1000) (omega arith) (omega arith) (omega arith) in
    let z = length_one (n / 1000) (omega arith) in
    omega arith

pub loop-rest-init : goal.loop-rest-init
loop-rest-init c =
    let a = four c.args.n (omega arith) (omega arith) in
    (omega arith, omega arith)

pub overflow_add-k : goal.overflow_add-k
overflow_add-k c =
    let a = length_at_most 20 c.args.n in
    omega arith

pub loop-rest-preserved : goal.loop-rest-preserved
loop-rest-preserved c =
    let a = length_more c.loop-rest.rest (omega arith) (omega arith) in
    (omega arith, omega arith)

pub returns : goal.returns
returns c =
    let a = length_one c.loop-rest.rest (omega arith) in
    omega arith
