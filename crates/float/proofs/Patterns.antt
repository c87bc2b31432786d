-- From an f64 above 0 to its significand and exponent, by its bit pattern, and the root of every other f64.
use Rattle.std.proofs.Common.{◌≡◌, ℕ, zero, suc, ◌+◌, ◌-◌, ◌*◌, ◌/◌, ◌%◌, ◌^◌, ◌<◌, ◌≤◌, Bool, true, false, cond, not, ◌&&◌, ◌||◌, T, eqb, ltb, leb, ◌⊎◌, sym, refl, ap, ◌∙◌, subst, inl, inr, le_trans, le_of_eq, lt_of_lt_of_le, lt_of_le_of_lt, lt_irrefl, mul-le-mul_right, mod-lt, mod-eq_of_lt, zero-lt-suc, mul_assoc, add_comm, mul-pos, mul-one, arith, lit<, lit≤, ltb→lt, lt→ltb, nltb→le, T_not, pow_pos, pow-add, shl_lt, ltb-false, ltb-true}
use mathlib.Core.Bool.{beq}
use native.Mathlib.Nat.{div-eq_of_eq-mul_left, div-eq_of_lt}
use lib.Dec.{nleb→lt, not_T}
use lib.Count.{count_leading_zeros, leading_top}
use lib.Ieee.{Float, nan, inf, fin, binary64, up, down, odd, fits, is_nan, nan_bits, of_fields, of_bits, to_bits, lt, eq, div}
use lib.Ieee.Fits.{eq→eqb, up_pos}
use lib.Ieee.Bits.{of_bits-to_bits, nan_bits_is, nan_bits_above}
use lib.Ieee.Exact.{HasValue, odd_sign}
use lib.Ieee.Positive.{num, den, positive, den_pos, value→cross, value_pos}
use Rattle.float.specs.Root.{root, root_of_units}
use Rattle.float.proofs.Held.{pow_lt_back}
use Rattle.float.proofs.Signs.{clash, at_zero}
use Rattle.float.proofs.Scaled.{Scaled, found, root_value, root-bits_are}

-- ---- a value above 0, and its fields
sign_of : (x : Float) (s : Bool) (a c : ℕ) → T (positive x) → HasValue x s a c → s ≡ false
sign_of nan s a c p h = absurd p
sign_of (inf t) s a c p h = absurd p
sign_of (fin true m e) s a c p h = absurd p
sign_of (fin false m e) s a c p h = sym h.0

-- the significand and the power that the field x and the digits t stand for
abbrev pub significand : ℕ → ℕ → ℕ
significand zero t = t
significand (suc x) t = t + 2 ^ 52

abbrev pub exponent : ℕ → ℕ
exponent zero = 0
exponent (suc x) = x

abbrev Read : Bool → ℕ → ℕ → Float → Type 0
Read s x t v = (s ≡ false) × (x < 2047) × HasValue v false (significand x t * 2 ^ exponent x) (2 ^ 1074)

read_odd : (s : Bool) (q k : ℕ) → T (positive (odd 53 s q k 1074)) → (s ≡ false) × HasValue (odd 53 s q k 1074) false (q * 2 ^ k) (2 ^ 1074)
read_odd s q k p =
    let v = odd 53 s q k 1074 in
    let e = sign_of v s (q * 2 ^ k) (2 ^ 1074) p (odd_sign 53 s q k 1074) in
    (e, subst (λ (b : Bool). HasValue v b (q * 2 ^ k) (2 ^ 1074)) e (odd_sign 53 s q k 1074))

-- a field of all ones is an infinity's or a NaN's
at_top : (a b s : Bool) (v : Float) → T (positive (cond a (cond b (inf s) nan) v)) → T (not a)
at_top true true s v p = absurd p
at_top true false s v p = absurd p
at_top false b s v p = tt

pub past_top : (a : Bool) (u v : Float) → T (not a) → cond a u v ≡ v
past_top true u v n = absurd n
past_top false u v n = refl

below_top : (x : ℕ) → suc x < 2048 → T (not (eqb (suc x) 2047)) → suc x < 2047
below_top x h n = go (suc x) h (λ (e : suc x ≡ 2047). T_not (eqb (suc x) 2047) n (eq→eqb e))
  where
    go : (x : ℕ) → x < 2048 → (x ≡ 2047 → ⊥) → x < 2047
    go x h n = omega arith

read : (s : Bool) (x t : ℕ) → x < 2048 → T (positive (of_fields binary64 s x t)) → Read s x t (of_fields binary64 s x t)
unfolding of_fields
read s zero t h p = let r = read_odd s t 0 p in (r.0, lit< tt, r.1)
read s (suc x) t h p =
    let v = odd 53 s (2 ^ 52 + t) x 1074 in
    let u = cond (eqb t 0) (inf s) nan in
    let n = at_top (eqb (suc x) 2047) (eqb t 0) s v p in
    let is : cond (eqb (suc x) 2047) u v ≡ v = past_top (eqb (suc x) 2047) u v n in
    let r = read_odd s (2 ^ 52 + t) x (subst (λ (k : Float). T (positive k)) is p) in (
      r.0,
      below_top x h n,
      subst (λ (k : Float). HasValue k false ((t + 2 ^ 52) * 2 ^ x) (2 ^ 1074)) (sym is) (subst (λ (q : ℕ). HasValue v false (q * 2 ^ x) (2 ^ 1074)) (add_comm (2 ^ 52) t) r.1),
    )

pub of_bits_is : (b : ℕ) → of_bits binary64 b ≡ of_fields binary64 (leb (2 ^ 63) b) (b % 2 ^ 63 / 2 ^ 52) (b % 2 ^ 52)
unfolding of_bits
of_bits_is b = refl

field_small : (b : ℕ) → b % 2 ^ 63 / 2 ^ 52 < 2048
field_small b = omega arith

pub here_or_on : (i c : ℕ) → (i < c) ⊎ (c ≤ i)
here_or_on i c = go (ltb i c) (ltb→lt i c) (nltb→le i c)
  where
    go : (t : Bool) → (T t → i < c) → (T (not t) → c ≤ i) → (i < c) ⊎ (c ≤ i)
    go true a b = inl (a tt)
    go false a b = inr (b tt)

-- ---- an f64 x above 0, in units of the smallest f64
abbrev pub units : Float → ℕ
units x = num x * 2 ^ 1074 / den x

pub root_of : (x : Float) → T (positive x) → root x ≡ root_of_units (units x)
unfolding root
root_of nan p = absurd p
root_of (inf s) p = absurd p
root_of (fin true m e) p = absurd p
root_of (fin false zero e) p = absurd p
root_of (fin false (suc m) e) p = refl

has_value : (z : Float) (a c : ℕ) → HasValue z false a c → T (not (is_nan z))
unfolding is_nan
has_value nan a c h = absurd h
has_value (inf s) a c h = tt
has_value (fin s m e) a c h = tt

module _ (x : Float) (F : T (fits binary64 x)) (p : T (positive x)) where
  abbrev b : ℕ
  b = to_bits binary64 x

  r : Read (leb (2 ^ 63) b) (b % 2 ^ 63 / 2 ^ 52) (b % 2 ^ 52) x
  r =
      let e : x ≡ of_fields binary64 (leb (2 ^ 63) b) (b % 2 ^ 63 / 2 ^ 52) (b % 2 ^ 52) = sym (of_bits-to_bits binary64 x F) ∙ of_bits_is b in
      subst (λ (v : Float). Read (leb (2 ^ 63) b) (b % 2 ^ 63 / 2 ^ 52) (b % 2 ^ 52) v) (sym e)
      (read (leb (2 ^ 63) b) (b % 2 ^ 63 / 2 ^ 52) (b % 2 ^ 52) (field_small b) (subst (λ (v : Float). T (positive v)) e p))

  pub clear : b < 2 ^ 63
  clear = nleb→lt (2 ^ 63) b (subst (λ (s : Bool). T (not s)) (sym r.0) tt)

  field : b % 2 ^ 63 / 2 ^ 52 ≡ b / 2 ^ 52
  field = ap (λ (k : ℕ). k / 2 ^ 52) (mod-eq_of_lt clear)

  pub finite_field : b / 2 ^ 52 < 2047
  finite_field = subst (λ (k : ℕ). k < 2047) field r.1

  units_are : units x ≡ significand (b / 2 ^ 52) (b % 2 ^ 52) * 2 ^ exponent (b / 2 ^ 52)
  units_are =
      div-eq_of_eq-mul_left (den_pos x)
      (value→cross x (significand (b / 2 ^ 52) (b % 2 ^ 52) * 2 ^ exponent (b / 2 ^ 52)) (2 ^ 1074)
      (subst (λ (k : ℕ). HasValue x false (significand k (b % 2 ^ 52) * 2 ^ exponent k) (2 ^ 1074)) field r.2))

  units_pos : 0 < units x
  units_pos =
      subst (λ (k : ℕ). 0 < k) (sym units_are)
      (value_pos x (significand (b / 2 ^ 52) (b % 2 ^ 52) * 2 ^ exponent (b / 2 ^ 52)) (2 ^ 1074) p (pow_pos 1074)
      (subst (λ (k : ℕ). HasValue x false (significand k (b % 2 ^ 52) * 2 ^ exponent k) (2 ^ 1074)) field r.2))

  -- with a leading digit
  pub normal : 2 ^ 52 ≤ b → Scaled (units x) (b % 2 ^ 52 + 2 ^ 52) (b / 2 ^ 52 + 51)
  normal h = go (b / 2 ^ 52) (b % 2 ^ 52) (units x) (some b h) finite_field (mod-lt b (pow_pos 52)) units_are
    where
      some : (b : ℕ) → 4503599627370496 ≤ b → 0 < b / 4503599627370496
      some b h = omega arith

      go : (f t n : ℕ) → 0 < f → f < 2047 → t < 2 ^ 52 → n ≡ significand f t * 2 ^ exponent f → Scaled n (t + 2 ^ 52) (f + 51)
      go zero t n a b c e = absurd (lt_irrefl 0 a)
      go (suc f) t n a b c e = record {
        least = omega arith;
        most = omega arith;
        finite = omega arith;
        same = ap (λ (k : ℕ). k * 2 ^ 52) e ∙ mul_assoc (t + 2 ^ 52) (2 ^ f) (2 ^ 52) ∙ ap (λ (k : ℕ). (t + 2 ^ 52) * k) (sym (pow-add 2 f 52)) ∙ ap (λ (k : ℕ). (t + 2 ^ 52) * 2 ^ k) (up f);
      }
        where
          up : (f : ℕ) → f + 52 ≡ suc f + 51
          up f = omega arith

  -- with none: x is its pattern's number of units
  subnormal_units : b < 2 ^ 52 → units x ≡ b
  subnormal_units h = units_are ∙ go b (b / 2 ^ 52) (b % 2 ^ 52) (div-eq_of_lt h) (mod-eq_of_lt h)
    where
      go : (b f t : ℕ) → f ≡ 0 → t ≡ b → significand f t * 2 ^ exponent f ≡ b
      go b zero t e d = mul-one t ∙ d
      go b (suc f) t e d = absurd (not_zero f e)
        where
          not_zero : (f : ℕ) → suc f ≡ 0 → ⊥
          not_zero f e = omega arith

  -- how far the leading digit is to be moved
  abbrev Leading : ℕ → Type 0
  Leading i = (count_leading_zeros 64 b + suc i ≡ 64) × (2 ^ i ≤ b) × (b < 2 ^ suc i)

  leading : b < 2 ^ 52 → (i : ℕ) × Leading i × (i < 52)
  leading h =
      let t = leading_top 64 b (subst (λ (k : ℕ). 0 < k) (subnormal_units h) units_pos) (lt_of_lt_of_le h (lit≤ tt)) in
      (t.0, (t.1, t.2, t.3), pow_lt_back t.0 52 (lt_of_le_of_lt t.2 h))

  pub zeros : b < 2 ^ 52 → (11 ≤ count_leading_zeros 64 b) × (count_leading_zeros 64 b ≤ 63)
  zeros h = let t = leading h in go (count_leading_zeros 64 b) t.0 t.1.0 t.2
    where
      go : (z i : ℕ) → z + suc i ≡ 64 → i < 52 → (11 ≤ z) × (z ≤ 63)
      go z i e l = omega arith

  pub subnormal : b < 2 ^ 52 → Scaled (units x) (b * 2 ^ (count_leading_zeros 64 b - 11) % 2 ^ 64) (63 - count_leading_zeros 64 b)
  subnormal h =
      let t = leading h in
      subst (λ (n : ℕ). Scaled n (b * 2 ^ (count_leading_zeros 64 b - 11) % 2 ^ 64) (63 - count_leading_zeros 64 b)) (sym (subnormal_units h))
      (go (count_leading_zeros 64 b) t.0 t.1.0 t.1.1 t.1.2 t.2)
    where
      go : (z i : ℕ) → z + suc i ≡ 64 → 2 ^ i ≤ b → b < 2 ^ suc i → i < 52 → Scaled b (b * 2 ^ (z - 11) % 2 ^ 64) (63 - z)
      go z i e l u s =
          let k : z - 11 ≡ 52 - i = omega arith in
          let j : 63 - z ≡ i = omega arith in
          let m : suc i + (52 - i) ≡ 53 = omega arith in
          let c : i + (52 - i) ≡ 52 = omega arith in
          let top : b * 2 ^ (52 - i) < 2 ^ 53 = subst (λ (q : ℕ). b * 2 ^ (52 - i) < 2 ^ q) m (shl_lt (suc i) (52 - i) u) in
          let whole : b * 2 ^ (52 - i) % 2 ^ 64 ≡ b * 2 ^ (52 - i) = mod-eq_of_lt (lt_of_lt_of_le top (lit≤ tt)) in
          rw (k, j, whole)
          (record {
            least = le_trans (le_of_eq (ap (λ (q : ℕ). 2 ^ q) (sym c) ∙ pow-add 2 i (52 - i))) (mul-le-mul_right (2 ^ (52 - i)) l);
            most = top;
            finite = lt_of_lt_of_le s (lit≤ tt);
            same = sym (mul_assoc b (2 ^ (52 - i)) (2 ^ i) ∙ ap (λ (q : ℕ). b * q) (sym (pow-add 2 (52 - i) i) ∙ ap (λ (q : ℕ). 2 ^ q) (back i s)));
          })
        where
          back : (i : ℕ) → i < 52 → 52 - i + i ≡ 52
          back i s = omega arith

  pub scaled : (s : ℕ) × (w : ℕ) × Scaled (units x) s w
  scaled =
      elim (here_or_on b (2 ^ 52)) [
        | inl h ↦ (b * 2 ^ (count_leading_zeros 64 b - 11) % 2 ^ 64, 63 - count_leading_zeros 64 b, subnormal h)
        | inr h ↦ (b % 2 ^ 52 + 2 ^ 52, b / 2 ^ 52 + 51, normal h)
      ]

  module _ (s w : ℕ) (S : Scaled (units x) s w) (c : ℕ) (C : c ≡ (w / 2 + 485) * 2 ^ 52 + (found s w + 1) / 2) where
    pub from_bits : of_bits binary64 c ≡ root x
    from_bits = ap (of_bits binary64) C ∙ root-bits_are (units x) s w S ∙ sym (root_of x p)

    pub no_nan_bits : T (not (nan_bits binary64 c))
    no_nan_bits =
        subst (λ (k : Bool). T (not k)) (sym (nan_bits_is binary64 c))
        (has_value (of_bits binary64 c) ((found s w + 1) / 2 * 2 ^ (w / 2 + 485)) (2 ^ 1074)
        (subst (λ (v : Float). HasValue v false ((found s w + 1) / 2 * 2 ^ (w / 2 + 485)) (2 ^ 1074)) (sym (ap (of_bits binary64) C ∙ root-bits_are (units x) s w S)) (root_value (units x) s w S)))

-- ---- the tests that lead there, and the other values
-- 1.0 / 0.0, as MIR has it
abbrev endless : Float
endless = div binary64 (of_bits binary64 0x3FF0_0000_0000_0000) (of_bits binary64 0)

pub is_positive : (x : Float) → lt (of_bits binary64 0) x ≡ true → lt x endless ≡ true → T (positive x)
unfolding lt div of_bits
is_positive nan h k = clash h refl
is_positive (inf true) h k = clash h refl
is_positive (inf false) h k = clash k refl
is_positive (fin true m e) h k = clash h refl
is_positive (fin false zero e) h k = absurd (none (up e) (down e) (ltb-true (0 * down e) (0 * up e * 1) h))
  where
    none : (n d : ℕ) → 0 * d < 0 * n * 1 → ⊥
    none n d h = omega arith
is_positive (fin false (suc m) e) h k = lt→ltb 0 (suc m) (zero-lt-suc m)

pub is_number : (x : Float) → T (positive x) → T (not (is_nan x))
unfolding is_nan
is_number nan p = absurd p
is_number (inf s) p = tt
is_number (fin s m e) p = tt

pub endless_root : (x : Float) → lt (of_bits binary64 0) x ≡ true → lt x endless ≡ false → x ≡ root x
unfolding lt div of_bits root
endless_root nan h k = clash h refl
endless_root (inf true) h k = clash h refl
endless_root (inf false) h k = refl
endless_root (fin s m e) h k = clash refl k

pub zero_root : (x : Float) → T (fits binary64 x) → eq x (of_bits binary64 0) ≡ true → x ≡ root x
unfolding root
zero_root x F h = let z = at_zero x F h in z.1 ∙ sym (ap root z.1)

pub no_root : (x : Float) → lt (of_bits binary64 0) x ≡ false → eq x (of_bits binary64 0) ≡ false → div binary64 (of_bits binary64 0) (of_bits binary64 0) ≡ root x
unfolding lt eq div of_bits root
no_root nan h k = refl
no_root (inf true) h k = refl
no_root (inf false) h k = clash refl h
no_root (fin s zero e) h k = clash (both s (0 * up e * 1) (0 * down e) (nil (up e)) (nil' (down e))) k
  where
    nil : (n : ℕ) → 0 * n * 1 ≡ 0
    nil n = omega arith

    nil' : (n : ℕ) → 0 * n ≡ 0
    nil' n = omega arith

    both : (s : Bool) (a b : ℕ) → a ≡ 0 → b ≡ 0 → (eqb a b && (beq s false || eqb a 0)) ≡ true
    both true a b p q = rw (p, q)
    both false a b p q = rw (p, q)
no_root (fin true (suc m) e) h k = refl
no_root (fin false (suc m) e) h k = absurd (some (suc m * up e) (down e) (mul-pos (zero-lt-suc m) (up_pos e)) (ltb-false (0 * down e) (suc m * up e * 1) h))
  where
    some : (n d : ℕ) → 0 < n → n * 1 ≤ 0 * d → ⊥
    some n d a b = omega arith

-- ---- a pattern below the infinity's is no NaN's
pub below_endless : (c : ℕ) → c ≤ 2047 * 2 ^ 52 → T (not (nan_bits binary64 c))
below_endless c h =
    subst (λ (t : Bool). T (not t)) (sym (nan_bits_above binary64 c))
    (not_T (ltb (2047 * 2 ^ 52) (c % 2 ^ 63)) (λ (t : T (ltb (2047 * 2 ^ 52) (c % 2 ^ 63))). go c h (ltb→lt (2047 * 2 ^ 52) (c % 2 ^ 63) t)))
  where
    go : (c : ℕ) → c ≤ 9218868437227405312 → 9218868437227405312 < c % 9223372036854775808 → ⊥
    go c h l = omega arith
