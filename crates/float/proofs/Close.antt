-- A guess whose square, in f64 arithmetic, lies between two products that lie close to the number: so does its square in whole numbers, since rounding keeps the order.
use Rattle.std.proofs.Common.{◌≡◌, ℕ, suc, ◌+◌, ◌-◌, ◌*◌, ◌/◌, ◌%◌, ◌^◌, ◌<◌, ◌≤◌, Bool, true, false, cond, not, T, eqb, leb, sym, refl, ap, ◌∙◌, subst, mod-lt, lt_of_mul-lt-mul_right, mul-pos, lt_of_not-le, arith, lit<, eqb→eq, leb→le, pow_pos, pow-add}
use native.Mathlib.Nat.{eq_of_mul-eq-mul_right}
use lib.Dec.{not_T}
use lib.Ieee.{Float, nan, inf, fin, binary64, up, down, odd, mul, round, lt, le, is_nan, of_fields, of_bits}
use lib.Ieee.Exact.{HasValue, odd_sign}
use lib.Ieee.Order.{round_mono}
use lib.Ieee.Positive.{positive_of_value, mul_at}
use Rattle.float.proofs.Signs.{clash}
use Rattle.float.proofs.Order.{not_both}
use Rattle.float.proofs.Scaled.{two_of}
use Rattle.float.proofs.Patterns.{of_bits_is, past_top}

-- ---- values by their patterns
fields : (x t : ℕ) → suc x < 2047 → HasValue (of_fields binary64 false (suc x) t) false ((2 ^ 52 + t) * 2 ^ x) (2 ^ 1074)
unfolding of_fields
fields x t h =
    let v = odd 53 false (2 ^ 52 + t) x 1074 in
    let u = cond (eqb t 0) (inf false) nan in
    let is : cond (eqb (suc x) 2047) u v ≡ v = past_top (eqb (suc x) 2047) u v (not_T (eqb (suc x) 2047) (λ (e : T (eqb (suc x) 2047)). go (suc x) h (eqb→eq (suc x) 2047 e))) in
    subst (λ (k : Float). HasValue k false ((2 ^ 52 + t) * 2 ^ x) (2 ^ 1074)) (sym is) (odd_sign 53 false (2 ^ 52 + t) x 1074)
  where
    go : (x : ℕ) → x < 2047 → x ≡ 2047 → ⊥
    go x h e = omega arith

pattern : (x t : ℕ) → suc x < 2047 → t < 2 ^ 52 → HasValue (of_bits binary64 (suc x * 2 ^ 52 + t)) false ((2 ^ 52 + t) * 2 ^ x) (2 ^ 1074)
pattern x t h l =
    let b = suc x * 2 ^ 52 + t in
    let is : of_bits binary64 b ≡ of_fields binary64 false (suc x) t =
    of_bits_is b
    ∙ ap (λ (s : Bool). of_fields binary64 s (b % 2 ^ 63 / 2 ^ 52) (b % 2 ^ 52)) (clear (leb (2 ^ 63) b) (λ (e : T (leb (2 ^ 63) b)). low (suc x) t h l (leb→le (2 ^ 63) b e)))
    ∙ ap (λ (f : ℕ). of_fields binary64 false f (b % 2 ^ 52)) (field (suc x) t h l)
    ∙ ap (λ (d : ℕ). of_fields binary64 false (suc x) d) (digits (suc x) t l) in
    subst (λ (v : Float). HasValue v false ((2 ^ 52 + t) * 2 ^ x) (2 ^ 1074)) (sym is) (fields x t h)
  where
    low : (f t : ℕ) → f < 2047 → t < 4503599627370496 → 9223372036854775808 ≤ f * 4503599627370496 + t → ⊥
    low f t h l g = omega arith

    clear : (s : Bool) → (T s → ⊥) → s ≡ false
    clear true n = absurd (n tt)
    clear false n = refl

    field : (f t : ℕ) → f < 2047 → t < 4503599627370496 → (f * 4503599627370496 + t) % 9223372036854775808 / 4503599627370496 ≡ f
    field f t h l = omega arith

    digits : (f t : ℕ) → t < 4503599627370496 → (f * 4503599627370496 + t) % 4503599627370496 ≡ t
    digits f t l = omega arith

scale : (v : Float) (a c k : ℕ) → HasValue v false (a * 2 ^ k) (c * 2 ^ k) → HasValue v false a c
scale nan a c k h = absurd h
scale (inf s) a c k h = absurd h
scale (fin s m e) a c k h = (h.0, eq_of_mul-eq-mul_right (2 ^ k) (pow_pos k) (m * up e * c) (a * down e) (go (m * up e) c (2 ^ k) a (down e) h.1))
  where
    go : (n c p a d : ℕ) → n * (c * p) ≡ a * p * d → n * c * p ≡ a * d * p
    go n c p a d h = omega arith

-- a number from 1 up to 4
pub number_value : (t : ℕ) → t < 2 ^ 53 → HasValue (of_bits binary64 (t + 4607182418800017408)) false ((t % 2 ^ 52 + 2 ^ 52) * (t / 2 ^ 52 + 1)) (2 ^ 52)
number_value t h =
    let o = t / 2 ^ 52 in
    let r = t % 2 ^ 52 in
    scale (of_bits binary64 (t + 4607182418800017408)) ((r + 2 ^ 52) * (o + 1)) (2 ^ 52) 1022
    (subst (λ (a : ℕ). HasValue (of_bits binary64 (t + 4607182418800017408)) false a (2 ^ 52 * 2 ^ 1022))
    (ap (λ (p : ℕ). (2 ^ 52 + r) * p) (pow-add 2 1022 o ∙ ap (λ (p : ℕ). 2 ^ 1022 * p) (two_of o (odd_digit t h))) ∙ moved (2 ^ 1022) r (o + 1))
    (subst (λ (b : ℕ). HasValue (of_bits binary64 b) false ((2 ^ 52 + r) * 2 ^ (1022 + o)) (2 ^ 1074)) (bits t) (pattern (1022 + o) r (small t h) (mod-lt t (pow_pos 52)))))
  where
    odd_digit : (t : ℕ) → t < 9007199254740992 → t / 4503599627370496 < 2
    odd_digit t h = omega arith

    small : (t : ℕ) → t < 9007199254740992 → suc (1022 + t / 4503599627370496) < 2047
    small t h = omega arith

    bits : (t : ℕ) → suc (1022 + t / 4503599627370496) * 4503599627370496 + t % 4503599627370496 ≡ t + 4607182418800017408
    bits t = omega arith

    moved : (p r q : ℕ) → (4503599627370496 + r) * (p * q) ≡ (r + 4503599627370496) * q * p
    moved p r q = omega arith

-- a number from 1 up to 2
pub digits_value : (b : ℕ) → b / 2 ^ 52 ≡ 1023 → HasValue (of_bits binary64 b) false (b - 4602678819172646912) (2 ^ 52)
digits_value b h =
    scale (of_bits binary64 b) (b - 4602678819172646912) (2 ^ 52) 1022
    (subst (λ (a : ℕ). HasValue (of_bits binary64 b) false (a * 2 ^ 1022) (2 ^ 1074)) (above b h)
    (subst (λ (k : ℕ). HasValue (of_bits binary64 k) false ((2 ^ 52 + b % 2 ^ 52) * 2 ^ 1022) (2 ^ 1074)) (bits b h) (pattern 1022 (b % 2 ^ 52) (lit< tt) (mod-lt b (pow_pos 52)))))
  where
    above : (b : ℕ) → b / 4503599627370496 ≡ 1023 → 4503599627370496 + b % 4503599627370496 ≡ b - 4602678819172646912
    above b h = omega arith

    bits : (b : ℕ) → b / 4503599627370496 ≡ 1023 → 1023 * 4503599627370496 + b % 4503599627370496 ≡ b
    bits b h = omega arith

more_value : HasValue (of_bits binary64 4607182418800017440) false 4503599627370528 (2 ^ 52)
more_value = digits_value 4607182418800017440 refl

less_value : HasValue (of_bits binary64 4607182418800017344) false 9007199254740928 (2 ^ 53)
less_value = scale (of_bits binary64 4607182418800017344) 9007199254740928 (2 ^ 53) 1021 (pattern 1021 4503599627370432 (lit< tt) (lit< tt))

-- ---- products
module _ (w x y z : Float) (a A b B c C d D : ℕ) (W : HasValue w false a A) (X : HasValue x false b B) (Y : HasValue y false c C) (Z : HasValue z false d D)
    (a+ : 0 < a) (A+ : 0 < A) (b+ : 0 < b) (B+ : 0 < B) (c+ : 0 < c) (C+ : 0 < C) (d+ : 0 < d) (D+ : 0 < D) where
  products : lt (mul binary64 w x) (mul binary64 y z) ≡ true → a * b * (C * D) < c * d * (A * B)
  products h =
      lt_of_not-le (λ (g : c * d * (A * B) ≤ a * b * (C * D)).
      not_both (mul binary64 w x) (mul binary64 y z) h
      (subst (λ (v : Float). T (le v (mul binary64 w x))) (sym (mul_at binary64 y z c C d D (positive_of_value y c C Y c+) (positive_of_value z d D Z d+) C+ D+ Y Z))
      (subst (λ (v : Float). T (le (round binary64 false (c * d) (C * D)) v)) (sym (mul_at binary64 w x a A b B (positive_of_value w a A W a+) (positive_of_value x b B X b+) A+ B+ W X))
      (round_mono binary64 (c * d) (C * D) (a * b) (A * B) (mul-pos C+ D+) (mul-pos A+ B+) g))))

-- the guess g of the digits d, and the number y with the digits n
module _ (g y : Float) (d n : ℕ) (G : HasValue g false d (2 ^ 52)) (Y : HasValue y false n (2 ^ 52)) (d+ : 0 < d) (n+ : 0 < n) (few : n < 2 ^ 54) where
  pub close_under : lt (mul binary64 g g) (mul binary64 y (of_bits binary64 4607182418800017440)) ≡ true → d * d < n * 2 ^ 52 + 2 ^ 59
  close_under h =
      go (d * d) n few
      (products g g y (of_bits binary64 4607182418800017440) d (2 ^ 52) d (2 ^ 52) n (2 ^ 52) 4503599627370528 (2 ^ 52) G G Y more_value d+ (pow_pos 52) d+ (pow_pos 52) n+ (pow_pos 52) (lit< tt) (pow_pos 52) h)
    where
      near : (dd n : ℕ) → n < 18014398509481984 → dd < n * 4503599627370528 → dd < n * 4503599627370496 + 576460752303423488
      near dd n f h = omega arith

      go : (dd n : ℕ) → n < 2 ^ 54 → dd * (2 ^ 52 * 2 ^ 52) < n * 4503599627370528 * (2 ^ 52 * 2 ^ 52) → dd < n * 2 ^ 52 + 2 ^ 59
      go dd n f h = near dd n f (lt_of_mul-lt-mul_right (2 ^ 52 * 2 ^ 52) h)

  pub close_above : lt (mul binary64 y (of_bits binary64 4607182418800017344)) (mul binary64 g g) ≡ true → n * 2 ^ 52 < d * d + 2 ^ 59
  close_above h =
      go (d * d) n few
      (products y (of_bits binary64 4607182418800017344) g g n (2 ^ 52) 9007199254740928 (2 ^ 53) d (2 ^ 52) d (2 ^ 52) Y less_value G G n+ (pow_pos 52) (lit< tt) (pow_pos 53) d+ (pow_pos 52) d+ (pow_pos 52) h)
    where
      near : (dd n : ℕ) → n < 18014398509481984 → n * 9007199254740928 < dd * 2 → n * 4503599627370496 < dd + 576460752303423488
      near dd n f h = omega arith

      twice : (dd p : ℕ) → dd * (p * (2 * p)) ≡ dd * 2 * (p * p)
      twice dd p = omega arith

      go : (dd n : ℕ) → n < 2 ^ 54 → n * 9007199254740928 * (2 ^ 52 * 2 ^ 52) < dd * (2 ^ 52 * 2 ^ 53) → n * 2 ^ 52 < dd + 2 ^ 59
      go dd n f h = near dd n f (lt_of_mul-lt-mul_right (2 ^ 52 * 2 ^ 52) (subst (λ (k : ℕ). n * 9007199254740928 * (2 ^ 52 * 2 ^ 52) < k) (twice dd (2 ^ 52)) h))

pub square_number : (g z : Float) → lt (mul binary64 g g) z ≡ true → T (not (is_nan g))
unfolding lt mul is_nan
square_number nan z h = clash h refl
square_number (inf s) z h = tt
square_number (fin s m e) z h = tt
