-- The sign of an f64 as the tests `x < 0.0` and `x == 0.0` tell it, and what x - x tells.
use Rattle.std.proofs.Common.{◌≡◌, ℕ, zero, suc, ◌+◌, ◌-◌, ◌*◌, ◌^◌, ◌<◌, ◌≤◌, Bool, true, false, cond, not, ◌&&◌, ◌||◌, T, eqb, ltb, ℤ, pos, negsuc, sym, refl, ap, ◌∙◌, subst, true≢false, le_refl, zero-lt-suc, mul-pos, arith, lit<, eqb→eq, pow_pos, ltb-false, ltb-true, le-ltb}
use native.Mathlib.Nat.{sub_self}
use lib.Ieee.{Float, nan, inf, fin, binary64, up, down, round, neg, add, sub, sum, lt, eq, fits, of_bits}
use lib.Ieee.Fits.{and_l, up_pos, down_pos}
use lib.Ieee.Scale.{round_same}
use Rattle.float.specs.Helpers.{absolute, is_finite}

pub yes : {b : Bool} → b ≡ true → T b
yes h = subst T (sym h) tt

pub clash : {A : Type 0} {b : Bool} → b ≡ true → b ≡ false → A
clash p q = absurd (true≢false (sym p ∙ q))

none_below : (n d : ℕ) → n * 1 < 0 * d → ⊥
none_below n d h = omega arith

-- a zero is written in one way
pub zero_exponent : (e : ℤ) → up e * down e ≡ 1 → e ≡ pos 0
zero_exponent (pos zero) h = refl
zero_exponent (pos (suc k)) h = absurd (two_up (2 ^ k) (2 ^ suc k) (pow_pos k) (doubled k) h)
  where
    doubled : (k : ℕ) → 2 ^ suc k ≡ 2 * 2 ^ k
    doubled k = omega arith

    two_up : (p q : ℕ) → 0 < p → q ≡ 2 * p → q * 1 ≡ 1 → ⊥
    two_up p q a b c = omega arith
zero_exponent (negsuc k) h = absurd (two_down (2 ^ k) (2 ^ suc k) (pow_pos k) (doubled k) h)
  where
    doubled : (k : ℕ) → 2 ^ suc k ≡ 2 * 2 ^ k
    doubled k = omega arith

    two_down : (p q : ℕ) → 0 < p → q ≡ 2 * p → 1 * q ≡ 1 → ⊥
    two_down p q a b c = omega arith

pub below_zero_lem : (x : Float) → lt x (of_bits binary64 0) ≡ true → neg x ≡ absolute x
unfolding lt neg absolute of_bits
below_zero_lem nan h = clash h refl
below_zero_lem (inf true) h = refl
below_zero_lem (inf false) h = clash h refl
below_zero_lem (fin true m e) h = refl
below_zero_lem (fin false m e) h = absurd (none_below (m * up e) (down e) (ltb-true (m * up e * 1) (0 * down e) h))

pub fits_zero : (s : Bool) (e : ℤ) → T (fits binary64 (fin s zero e)) → e ≡ pos 0
unfolding fits
fits_zero s e F = zero_exponent e (eqb→eq (up e * down e) 1 F)

not_zero : (m : ℕ) (e : ℤ) (d : ℕ) → suc m * up e * 1 ≡ 0 * d → ⊥
not_zero m e d h = go (suc m * up e) d (mul-pos (zero-lt-suc m) (up_pos e)) h
  where
    go : (n d : ℕ) → 0 < n → n * 1 ≡ 0 * d → ⊥
    go n d p q = omega arith

pub at_zero : (x : Float) → T (fits binary64 x) → eq x (of_bits binary64 0) ≡ true → (s : Bool) × (x ≡ fin s 0 (pos 0))
unfolding eq of_bits
at_zero nan F h = clash h refl
at_zero (inf s) F h = clash h refl
at_zero (fin s zero e) F h = (s, ap (fin s zero) (fits_zero s e F))
at_zero (fin s (suc m) e) F h = absurd (not_zero m e (down e) (eqb→eq (suc m * up e * 1) (0 * down e) (and_l (eqb (suc m * up e * 1) (0 * down e)) _ (yes h))))

pub zero_size : (x : Float) → T (fits binary64 x) → eq x (of_bits binary64 0) ≡ true → of_bits binary64 0 ≡ absolute x
unfolding absolute of_bits
zero_size x F h = let z = at_zero x F h in sym (ap absolute z.1)

pub above_zero : (x : Float) → lt x (of_bits binary64 0) ≡ false → eq x (of_bits binary64 0) ≡ false → x ≡ absolute x
unfolding lt eq absolute of_bits
above_zero nan h k = refl
above_zero (inf true) h k = clash refl h
above_zero (inf false) h k = refl
above_zero (fin false m e) h k = refl
above_zero (fin true (suc m) e) h k = absurd (some (suc m * up e) (down e) (mul-pos (zero-lt-suc m) (up_pos e)) (ltb-false 0 (suc m * up e * 1 + 0 * down e) h))
  where
    some : (n d : ℕ) → 0 < n → n * 1 + 0 * d ≤ 0 → ⊥
    some n d a b = omega arith
above_zero (fin true zero e) h k = clash (both (0 * up e * 1) (0 * down e) (nil (up e)) (nil' (down e))) k
  where
    nil : (n : ℕ) → 0 * n * 1 ≡ 0
    nil n = omega arith

    nil' : (n : ℕ) → 0 * n ≡ 0
    nil' n = omega arith

    both : (a b : ℕ) → a ≡ 0 → b ≡ 0 → (eqb a b && (false || eqb a 0)) ≡ true
    both a b p q = rw (p, q)

-- ---- x - x
nothing : (s : Bool) (a c : ℕ) → 0 < c → round binary64 (s && ltb a a) (a - a) c ≡ fin false 0 (pos 0)
unfolding round
nothing s a c C =
    ap (λ (b : Bool). round binary64 (s && b) (a - a) c) (le-ltb a a (le_refl a))
    ∙ ap (λ (n : ℕ). round binary64 (s && false) n c) (sub_self a)
    ∙ ap (λ (b : Bool). round binary64 b 0 c) (none s)
    ∙ round_same binary64 false 0 c 0 1 C (lit< tt) (nil c)
  where
    none : (s : Bool) → s && false ≡ false
    none true = refl
    none false = refl

    nil : (c : ℕ) → 0 * 1 ≡ 0 * c
    nil c = omega arith

itself : (s : Bool) (m : ℕ) (e : ℤ) → sub binary64 (fin s m e) (fin s m e) ≡ fin false 0 (pos 0)
unfolding sub neg add sum
itself s m e = go s (m * up e * down e) (down e * down e) (mul-pos (down_pos e) (down_pos e))
  where
    go : (s : Bool) (a c : ℕ) → 0 < c → sum binary64 s a (not s) a c ≡ fin false 0 (pos 0)
    go true a c C = ap (λ (b : Bool). cond b (round binary64 false (a - a) c) (round binary64 (true && ltb a a) (a - a) c)) (le-ltb a a (le_refl a)) ∙ nothing true a c C
    go false a c C = ap (λ (b : Bool). cond b (round binary64 true (a - a) c) (round binary64 (false && ltb a a) (a - a) c)) (le-ltb a a (le_refl a)) ∙ nothing false a c C

pub finite_by : (x : Float) → eq (sub binary64 x x) (of_bits binary64 0) ≡ is_finite x
unfolding eq sub neg add is_finite of_bits
finite_by nan = refl
finite_by (inf true) = refl
finite_by (inf false) = refl
finite_by (fin s m e) = ap (λ (z : Float). eq z (of_bits binary64 0)) (itself s m e)
