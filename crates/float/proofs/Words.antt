-- The square of a number g of 53 digits by its words h and l of 21 and 32, modulo 2 ^ 64: what the test of `is_nearest` tells.
use Rattle.std.proofs.Common.{◌≡◌, ℕ, ◌+◌, ◌-◌, ◌*◌, ◌/◌, ◌%◌, ◌^◌, ◌<◌, ◌≤◌, sym, refl, ap, ◌∙◌, subst, inl, inr, mul-le-mul_right, mul-le-mul, eq-or-lt_of_le, arith}
use Rattle.float.proofs.Patterns.{here_or_on}

pub low_low : (g : ℕ) → g % 4294967296 * (g % 4294967296) ≤ 18446744065119617025
low_low g = let l : g % 4294967296 ≤ 4294967295 = omega arith in mul-le-mul l l

pub high_low : (g : ℕ) → g < 2 ^ 53 → g / 4294967296 * (g % 4294967296) ≤ 9007199254740992
high_low g h =
    let k : g / 4294967296 ≤ 2097152 = omega arith in
    let l : g % 4294967296 ≤ 4294967296 = omega arith in
    mul-le-mul k l

squared : (h l : ℕ) → (h * 4294967296 + l) * (h * 4294967296 + l) ≡ h * h * 18446744073709551616 + h * l * 8589934592 + l * l
squared h l = omega arith

-- A number by its quotient and its rest modulo 2 ^ 64, and what the rest is.
parted : (n r : ℕ) → n % 18446744073709551616 ≡ r → n ≡ r + n / 18446744073709551616 * 18446744073709551616
parted n r e = omega arith

abbrev word : ℕ
word = 18446744073709551616

-- the three sums together
joined : (v g' apart c over ll x q1 q2 q3 : ℕ) → apart + g' ≡ v + q3 * word → apart + c ≡ over + q2 * word → over + ll ≡ x + q1 * word
    → v + c + ll + q3 * word ≡ x + g' + (q1 + q2) * word
joined v g' apart c over ll x q1 q2 q3 r q p = omega arith

-- with the whole square and the whole number
whole : (v g' a gg hh hl ll s t : ℕ) → gg ≡ hh * word + hl * 8589934592 + ll → v + hl % 2147483648 * 8589934592 + ll + s * word ≡ a % 4096 * 4503599627370496 + g' + t * word
    → v + gg + (s + a / 4096) * word ≡ a * 4503599627370496 + g' + (t + hh + hl / 2147483648) * word
whole v g' a gg hh hl ll s t e f = omega arith

-- the two are not a multiple of 2 ^ 64 apart
module _ (v gg x g : ℕ) (least : 4503599627370496 ≤ g) (most : g < 9007199254740992) (under : gg < x + 576460752303423488) (above : x < gg + 576460752303423488) (close : v < g * 2) where
  no_less : (s t : ℕ) → v + gg + s * word ≡ x + (g - 1) + t * word → s < t → ⊥
  no_less s t e h = omega (arith, mul-le-mul_right word h)

  no_more : (s t : ℕ) → v + gg + s * word ≡ x + (g - 1) + t * word → t < s → ⊥
  no_more s t e h = omega (arith, mul-le-mul_right word h)

  level : (s t : ℕ) → v + gg + s * word ≡ x + (g - 1) + t * word → v + gg ≡ x + (g - 1)
  level s t e =
      elim (here_or_on s t) [
        | inl h ↦ absurd (no_less s t e h)
        | inr h ↦
            elim (eq-or-lt_of_le h) [
              | inl i ↦ same (v + gg) (x + (g - 1)) (s * word) (e ∙ ap (λ (k : ℕ). x + (g - 1) + k * word) i)
              | inr i ↦ absurd (no_more s t e i)
            ]
      ]
    where
      same : (m n k : ℕ) → m + k ≡ n + k → m ≡ n
      same m n k e = omega arith

  sides : v + gg ≡ x + (g - 1) → (gg < x + g) × (x ≤ gg + g)
  sides e = omega arith

pub settled : (a g over apart : ℕ) → 2 ^ 52 ≤ g → g < 2 ^ 53 → g * g < a * 2 ^ 52 + 2 ^ 59 → a * 2 ^ 52 < g * g + 2 ^ 59
    → (over + g % 4294967296 * (g % 4294967296)) % 2 ^ 64 ≡ a % 4096 * 2 ^ 52
    → (apart + g / 4294967296 * (g % 4294967296) % 2147483648 * 8589934592) % 2 ^ 64 ≡ over
    → (apart + (g - 1)) % 2 ^ 64 < g * 2
    → (g * g < a * 2 ^ 52 + g) × (a * 2 ^ 52 ≤ g * g + g)
settled a g over apart k m u n p q r =
    let h = g / 4294967296 in
    let l = g % 4294967296 in
    let v = (apart + (g - 1)) % word in
    let two : g ≡ g / 4294967296 * 4294967296 + g % 4294967296 = omega arith in
    let e : g * g ≡ h * h * word + h * l * 8589934592 + l * l = subst (λ (i : ℕ). i * i ≡ h * h * word + h * l * 8589934592 + l * l) (sym two) (squared h l) in
    let j = joined v (g - 1) apart (h * l % 2147483648 * 8589934592) over (l * l) (a % 4096 * 4503599627370496) ((over + l * l) / word) ((apart + h * l % 2147483648 * 8589934592) / word) ((apart + (g - 1)) / word) (parted (apart + (g - 1)) v refl) (parted (apart + h * l % 2147483648 * 8589934592) over q) (parted (over + l * l) (a % 4096 * 4503599627370496) p) in
    let w = whole v (g - 1) a (g * g) (h * h) (h * l) (l * l) ((apart + (g - 1)) / word) ((over + l * l) / word + (apart + h * l % 2147483648 * 8589934592) / word) e j in
    sides v (g * g) (a * 4503599627370496) g k m u n r (level v (g * g) (a * 4503599627370496) g k m u n r _ _ w)
