-- `round_away` by the whole part of 2x, and at the two ends of its range.
use Rattle.std.proofs.Common.{◌≡◌, ℕ, zero, suc, ◌+◌, ◌-◌, ◌*◌, ◌/◌, ◌%◌, ◌^◌, ◌<◌, ◌≤◌, min, true, false, T, ℤ, pos, negsuc, sym, refl, ap, ◌∙◌, subst, true≢false, le_of_eq, lt_of_lt_of_le, lt_of_le_of_lt, mul_assoc, mul_comm, div-lt_iff_lt-mul, lt_of_mul-lt-mul_right, mul-lt-mul_of_pos_right, mul-pos, le-div_iff_mul-le, mul_right_comm, arith, lit<, lit≤, lt→ltb, pow_pos, ltb-false, ltb-true}
use native.Mathlib.Nat.{div-eq_of_lt, add-div_right, div-div-eq-div-mul, pow-succ'}
use lib.Ieee.{Float, nan, inf, fin, binary64, up, down, add, lt, fits, to_unsigned, of_bits, sum}
use lib.Ieee.Fits.{down_pos}
use lib.Ieee.Exact.{HasValue, round_exact}
use lib.Ieee.Nearest.{div_same}
use lib.Ieee.Scale.{round_same}
use Rattle.float.specs.Helpers.{round_away}
use Rattle.float.proofs.Held.{held, digits, power, in_units}
use Rattle.float.proofs.Signs.{clash, yes}

-- 2 ^ 63 and 2 ^ 64, as MIR has them
abbrev two_63 : Float
two_63 = of_bits binary64 0x43E0_0000_0000_0000

abbrev two_64 : Float
two_64 = of_bits binary64 0x43F0_0000_0000_0000

-- the whole part of n / d + 1/2
abbrev half_up : ℕ → ℕ → ℕ
half_up n d = (2 * n + d) / (2 * d)

-- ---- not above 0
small_half : (n d : ℕ) → 0 < d → n * 1 ≤ 0 * d → 0 ≡ min (half_up n d) (2 ^ 64 - 1)
small_half n d D h = sym (ap (λ (k : ℕ). min k (2 ^ 64 - 1)) (div-eq_of_lt (less n d D h)))
  where
    less : (n d : ℕ) → 0 < d → n * 1 ≤ 0 * d → 2 * n + d < 2 * d
    less n d D h = omega arith

pub not_above : (x : Float) → lt (of_bits binary64 0) x ≡ false → 0 ≡ round_away x
unfolding lt round_away of_bits
not_above nan h = refl
not_above (inf true) h = refl
not_above (inf false) h = clash refl h
not_above (fin true m e) h = refl
not_above (fin false m e) h = small_half (m * up e) (down e) (down_pos e) (ltb-false (0 * down e) (m * up e * 1) h)

-- ---- from 2 ^ 64 on
capped : (w : ℕ) → 2 ^ 64 ≤ w → 2 ^ 64 - 1 ≡ min w (2 ^ 64 - 1)
capped w h = omega arith

large_half : (n d : ℕ) → 0 < d → 1 * 2 ^ 64 * d ≤ n * 1 → 2 ^ 64 - 1 ≡ min (half_up n d) (2 ^ 64 - 1)
large_half n d D h = capped (half_up n d) ((le-div_iff_mul-le (mul-pos (lit< tt) D)).1 (more n d h))
  where
    more : (n d : ℕ) → 18446744073709551616 * d ≤ n * 1 → 18446744073709551616 * (2 * d) ≤ 2 * n + d
    more n d h = omega arith

pub too_large : (x : Float) → lt (of_bits binary64 0) x ≡ true → lt x two_64 ≡ false → 2 ^ 64 - 1 ≡ round_away x
unfolding lt round_away of_bits
too_large nan h k = clash h refl
too_large (inf true) h k = clash h refl
too_large (inf false) h k = refl
too_large (fin true m e) h k = clash h refl
too_large (fin false m e) h k = large_half (m * up e) (down e) (down_pos e) (ltb-false (m * up e * 1) (1 * 2 ^ 64 * down e) k)

-- ---- from 2 ^ 63 on x is whole
whole : (m : ℕ) (e : ℤ) → m < 2 ^ 53 → 1 * 2 ^ 63 * down e ≤ m * up e * 1 → m * up e / down e ≡ half_up (m * up e) (down e)
whole m (pos k) h g = go (m * 2 ^ k)
  where
    go : (n : ℕ) → n / 1 ≡ (2 * n + 1) / 2
    go n = omega arith
whole m (negsuc k) h g = absurd (go m (2 ^ suc k) (pow_pos (suc k)) h g)
  where
    go : (m d : ℕ) → 0 < d → m < 9007199254740992 → 9223372036854775808 * d ≤ m * 1 * 1 → ⊥
    go m d D h g = omega arith

pub large : (x : Float) → T (fits binary64 x) → lt (of_bits binary64 0) x ≡ true → lt x two_63 ≡ false → lt x two_64 ≡ true → to_unsigned 64 x ≡ round_away x
unfolding lt round_away to_unsigned of_bits
large nan F h k l = clash h refl
large (inf true) F h k l = clash h refl
large (inf false) F h k l = refl
large (fin true m e) F h k l = clash h refl
large (fin false m e) F h k l = ap (λ (w : ℕ). min w (2 ^ 64 - 1)) (whole m e (digits false m e F) (ltb-false (m * up e * 1) (1 * 2 ^ 63 * down e) k))

-- ---- below 2 ^ 63, x + x is exact, and its whole part says on which side of the half x lies
twice_units : (m : ℕ) (e : ℤ) → down e ≤ 2 ^ 1074 → 2 * (m * up e) * 2 ^ 1074 ≡ m * 2 ^ suc (power e) * down e
twice_units m e h =
    mul_assoc 2 (m * up e) (2 ^ 1074)
    ∙ ap (λ (w : ℕ). 2 * w) (in_units m e h)
    ∙ move m (2 ^ power e) (down e)
    ∙ ap (λ (p : ℕ). m * p * down e) (sym (pow-succ' 2 (power e)))
  where
    move : (m p d : ℕ) → 2 * (m * p * d) ≡ m * (2 * p) * d
    move m p d = omega arith

-- n / d below p is a / l below p where n / d is a / l
carried : (n d a l p : ℕ) → 0 < d → 0 < l → n * l ≡ a * d → n < p * d → a < p * l
carried n d a l p D L v h = lt_of_mul-lt-mul_right d (lt_of_le_of_lt (le_of_eq (sym v)) (lt_of_lt_of_le (mul-lt-mul_of_pos_right h L) (le_of_eq (mul_right_comm p d l))))

doubled : (m : ℕ) (e : ℤ) → T (fits binary64 (fin false (suc m) e)) → suc m * up e < 2 ^ 63 * down e
    → HasValue (add binary64 (fin false (suc m) e) (fin false (suc m) e)) false (2 * (suc m * up e)) (down e)
unfolding add sum
doubled m e F h =
    let n = suc m * up e in
    let d = down e in
    let H = held false m e F in
    let u = twice_units (suc m) e H.above in
    let small : suc m * 2 ^ suc (power e) < 2 ^ 64 * 2 ^ 1074 = carried (2 * n) d (suc m * 2 ^ suc (power e)) (2 ^ 1074) (2 ^ 64) (down_pos e) (pow_pos 1074) u (twice n d h) in
    subst (λ (z : Float). HasValue z false (2 * n) d) (round_same binary64 false (2 * n) d (n * d + n * d) (d * d) (down_pos e) (mul-pos (down_pos e) (down_pos e)) (same n d))
    (round_exact binary64 false (2 * n) d (suc m) (suc (power e)) (down_pos e) H.short (lt_of_lt_of_le small (lit≤ tt)) u)
  where
    twice : (n d : ℕ) → n < 9223372036854775808 * d → 2 * n < 18446744073709551616 * d
    twice n d h = omega arith

    same : (n d : ℕ) → 2 * n * (d * d) ≡ (n * d + n * d) * d
    same n d = omega arith

-- what `truncating_f64_to_u64` asks, and what it gives, of a z that is 2n / d
asked : (z : Float) (a c : ℕ) → 0 < c → HasValue z false a c → a < 2 ^ 64 * c → T (lt (fin true 1 (pos 0)) z) × T (lt z (fin false 1 (pos 64)))
unfolding lt
asked nan a c C v h = absurd v
asked (inf s) a c C v h = absurd v
asked (fin true m e) a c C v h = absurd (true≢false v.0)
asked (fin false m e) a c C v h = (
  lt→ltb 0 (1 * down e + m * up e * 1) (some (down e) (m * up e) (down_pos e)),
  lt→ltb (m * up e * 1) (1 * 2 ^ 64 * down e) (tidy (m * up e) (down e) (carried a c (m * up e) (down e) (2 ^ 64) C (down_pos e) (sym v.1) h)),
)
  where
    some : (d n : ℕ) → 0 < d → 0 < 1 * d + n * 1
    some d n h = omega arith

    tidy : (n d : ℕ) → n < 18446744073709551616 * d → n * 1 < 18446744073709551616 * d
    tidy n d h = omega arith

whole_of : (z : Float) (a c : ℕ) → 0 < c → HasValue z false a c → a < 2 ^ 64 * c → to_unsigned 64 z ≡ a / c
unfolding to_unsigned
whole_of nan a c C v h = absurd v
whole_of (inf s) a c C v h = absurd v
whole_of (fin true m e) a c C v h = absurd (true≢false v.0)
whole_of (fin false m e) a c C v h =
    ap (λ (w : ℕ). min w (2 ^ 64 - 1)) (div_same (m * up e) (down e) a c (down_pos e) C v.1)
    ∙ uncapped (a / c) ((div-lt_iff_lt-mul C).1 h)
  where
    uncapped : (w : ℕ) → w < 2 ^ 64 → min w (2 ^ 64 - 1) ≡ w
    uncapped w h = omega arith

halves : (n d : ℕ) → 0 < d → 2 * n / d / 2 + 2 * n / d % 2 ≡ half_up n d
halves n d D =
    even_up (2 * n / d)
    ∙ ap (λ (w : ℕ). w / 2) (sym (add-div_right (2 * n) D))
    ∙ div-div-eq-div-mul (2 * n + d) d 2
    ∙ ap (λ (w : ℕ). (2 * n + d) / w) (mul_comm d 2)
  where
    even_up : (w : ℕ) → w / 2 + w % 2 ≡ (w + 1) / 2
    even_up w = omega arith

-- what is known of an x above 0 and below 2 ^ 63
abbrev Halved : Float → Type 0
Halved x = T (lt (fin true 1 (pos 0)) (add binary64 x x)) × T (lt (add binary64 x x) (fin false 1 (pos 64))) × (to_unsigned 64 (add binary64 x x) / 2 + to_unsigned 64 (add binary64 x x) % 2 ≡ round_away x)

of_value : (m : ℕ) (e : ℤ) → T (fits binary64 (fin false (suc m) e)) → suc m * up e < 2 ^ 63 * down e → Halved (fin false (suc m) e)
unfolding round_away
of_value m e F h =
    let n = suc m * up e in
    let d = down e in
    let z = add binary64 (fin false (suc m) e) (fin false (suc m) e) in
    let v = doubled m e F h in
    let t : 2 * n < 2 ^ 64 * d = twice n d h in
    let k = asked z (2 * n) d (down_pos e) v t in (
      k.0,
      k.1,
      ap (λ (w : ℕ). w / 2 + w % 2) (whole_of z (2 * n) d (down_pos e) v t) ∙ halves n d (down_pos e) ∙ uncapped (half_up n d) ((div-lt_iff_lt-mul (mul-pos (lit< tt) (down_pos e))).1 (room n d (down_pos e) h)),
    )
  where
    twice : (n d : ℕ) → n < 9223372036854775808 * d → 2 * n < 18446744073709551616 * d
    twice n d h = omega arith

    room : (n d : ℕ) → 0 < d → n < 9223372036854775808 * d → 2 * n + d < 18446744073709551616 * (2 * d)
    room n d D h = omega arith

    uncapped : (w : ℕ) → w < 2 ^ 64 → w ≡ min w (2 ^ 64 - 1)
    uncapped w h = omega arith

pub small : (x : Float) → T (fits binary64 x) → lt (of_bits binary64 0) x ≡ true → lt x two_63 ≡ true → Halved x
unfolding lt of_bits
small nan F h k = clash h refl
small (inf true) F h k = clash h refl
small (inf false) F h k = clash k refl
small (fin true m e) F h k = clash h refl
small (fin false zero e) F h k = absurd (none (up e) (down e) (ltb-true (0 * down e) (0 * up e * 1) h))
  where
    none : (n d : ℕ) → 0 * d < 0 * n * 1 → ⊥
    none n d h = omega arith
small (fin false (suc m) e) F h k = of_value m e F (tidy (suc m * up e) (down e) (ltb-true (suc m * up e * 1) (1 * 2 ^ 63 * down e) k))
  where
    tidy : (n d : ℕ) → n * 1 < 9223372036854775808 * d → n < 9223372036854775808 * d
    tidy n d h = omega arith

-- what `truncating_f64_to_u64` asks of an x above 0 and below 2 ^ 64
pub asked_large : (x : Float) → lt (of_bits binary64 0) x ≡ true → lt x two_64 ≡ true → T (lt (fin true 1 (pos 0)) x) × T (lt x (fin false 1 (pos 64)))
unfolding lt of_bits
asked_large nan h k = clash h refl
asked_large (inf true) h k = clash h refl
asked_large (inf false) h k = clash k refl
asked_large (fin true m e) h k = clash h refl
asked_large (fin false m e) h k = (lt→ltb 0 (1 * down e + m * up e * 1) (some (down e) (m * up e) (down_pos e)), yes k)
  where
    some : (d n : ℕ) → 0 < d → 0 < 1 * d + n * 1
    some d n h = omega arith
