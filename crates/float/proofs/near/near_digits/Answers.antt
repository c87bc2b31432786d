-- `float::near::near_digits` meets its contract: a guess that passes the tests in f64 arithmetic is close enough for `is_nearest`.
use Rattle.std.proofs.Common.{◌≡◌, ℕ, ◌+◌, ◌-◌, ◌*◌, ◌/◌, ◌%◌, ◌^◌, ◌<◌, ◌≤◌, true, false, T, sym, subst, mul-le-mul, arith}
use lib.Ieee.{Float, binary64, fits, to_bits, of_bits, mul, lt}
use lib.Ieee.Bits.{of_bits-to_bits}
use lib.Ieee.Exact.{HasValue}
use Rattle.float.proofs.Patterns.{below_endless}
use Rattle.float.proofs.Close.{number_value, digits_value, close_under, close_above, square_number}
use Rattle.float.proofs.near.near_digits.Goals as goal

pub float_from_bits-y : goal.float_from_bits-y
float_from_bits-y c = below_endless _ (omega arith)

pub float_from_bits-t-8 : goal.float_from_bits-t-8
float_from_bits-t-8 c = below_endless _ (omega arith)

pub float_from_bits-t-11 : goal.float_from_bits-t-11
float_from_bits-t-11 c = below_endless _ (omega arith)

pub float_to_bits-bits : goal.float_to_bits-bits
float_to_bits-bits c = square_number _ _ c.if-square-y.true

-- the number's digits are 53 or 54, and not 0
most : (t : ℕ) → t < 2 ^ 53 → (t % 4503599627370496 + 4503599627370496) * (t / 4503599627370496 + 1) ≤ 18014398509481982
most t h =
    let r : t % 4503599627370496 + 4503599627370496 ≤ 9007199254740991 = omega arith in
    let o : t / 4503599627370496 + 1 ≤ 2 = omega arith in
    mul-le-mul r o

least : (t : ℕ) → 1 ≤ (t % 4503599627370496 + 4503599627370496) * (t / 4503599627370496 + 1)
least t =
    let r : 1 ≤ t % 4503599627370496 + 4503599627370496 = omega arith in
    let o : 1 ≤ t / 4503599627370496 + 1 = omega arith in
    mul-le-mul r o

-- what the tests tell of the guess g and its digits
tests : (t : ℕ) (g : Float) → t < 2 ^ 53 → T (fits binary64 g) → to_bits binary64 g / 2 ^ 52 ≡ 1023
    → lt (mul binary64 g g) (mul binary64 (of_bits binary64 (t + 4607182418800017408)) (of_bits binary64 4607182418800017440)) ≡ true
    → lt (mul binary64 (of_bits binary64 (t + 4607182418800017408)) (of_bits binary64 4607182418800017344)) (mul binary64 g g) ≡ true
    → ((t % 2 ^ 52 + 2 ^ 52) * (t / 2 ^ 52 + 1) < 2 ^ 54) × (2 ^ 52 ≤ to_bits binary64 g - 4602678819172646912) × (to_bits binary64 g - 4602678819172646912 < 2 ^ 53)
    × ((to_bits binary64 g - 4602678819172646912) * (to_bits binary64 g - 4602678819172646912) < (t % 2 ^ 52 + 2 ^ 52) * (t / 2 ^ 52 + 1) * 2 ^ 52 + 2 ^ 59)
    × ((t % 2 ^ 52 + 2 ^ 52) * (t / 2 ^ 52 + 1) * 2 ^ 52 < (to_bits binary64 g - 4602678819172646912) * (to_bits binary64 g - 4602678819172646912) + 2 ^ 59)
tests t g h F e u v =
    let b = to_bits binary64 g in
    let y = of_bits binary64 (t + 4607182418800017408) in
    let d = b - 4602678819172646912 in
    let n = (t % 2 ^ 52 + 2 ^ 52) * (t / 2 ^ 52 + 1) in
    let G = subst (λ (x : Float). HasValue x false d (2 ^ 52)) (of_bits-to_bits binary64 g F) (digits_value b e) in
    let Y = number_value t h in
    let few : n < 2 ^ 54 = under (most t h) in
    let k = digits b e in
    (few, k.0, k.1, close_under g y d n G Y (some d k.0) (least t) few u, close_above g y d n G Y (some d k.0) (least t) few v)
  where
    under : {n : ℕ} → n ≤ 18014398509481982 → n < 18014398509481984
    under h = omega arith

    digits : (b : ℕ) → b / 4503599627370496 ≡ 1023 → (4503599627370496 ≤ b - 4602678819172646912) × (b - 4602678819172646912 < 9007199254740992)
    digits b e = omega arith

    some : (d : ℕ) → 4503599627370496 ≤ d → 0 < d
    some d h = omega arith

pub is_nearest-requires : goal.is_nearest-requires
is_nearest-requires c =
    let t = c.args.t in
    let g = c.guess-g.result in
    tests t g c.requires (subst T (sym c.guess-g.type_inv) tt) c.if-bits-eq1023.true c.if-square-y.true c.if-y-square.true
