-- What it tells of a finite f64 that the format holds it.
use Rattle.std.proofs.Common.{◌≡◌, ℕ, zero, suc, ◌+◌, ◌-◌, ◌*◌, ◌%◌, ◌^◌, ◌<◌, ◌≤◌, Bool, ◌&&◌, T, eqb, ltb, leb, ℤ, pos, negsuc, sym, ap, ◌∙◌, le_trans, le_refl, lt_of_lt_of_le, le_of_suc-le-suc, lt_irrefl, mul_assoc, lt_of_not-le, mul-one, arith, lit<, eqb→eq, ltb→lt, leb→le, pow_mono, pow-add}
use lib.Pow.{pow-lt}
use lib.Ieee.{fin, binary64, up, down, fits}
use lib.Ieee.Fits.{and_l, and_r}

pub record Held (m : ℕ) (e : ℤ) : Type 0 where
  pub is_odd : m % 2 ≡ 1
  pub short : m < 2 ^ 53
  pub above : down e ≤ 2 ^ 1074
  pub below : m * up e < 2 ^ 1024 * down e

pub held : (s : Bool) (m : ℕ) (e : ℤ) → T (fits binary64 (fin s (suc m) e)) → Held (suc m) e
unfolding fits
held s m e F =
    let A = eqb (suc m % 2) 1 in
    let B = ltb (suc m) (2 ^ 53) in
    let C = leb (down e) (2 ^ 1074) in
    let D = ltb (suc m * up e) (2 ^ 1024 * down e) in
    let f = and_l (A && B && C) D F in
    let g = and_l (A && B) C f in
    record {
      is_odd = eqb→eq (suc m % 2) 1 (and_l A B g);
      short = ltb→lt (suc m) (2 ^ 53) (and_r A B g);
      above = leb→le (down e) (2 ^ 1074) (and_r (A && B) C f);
      below = ltb→lt (suc m * up e) (2 ^ 1024 * down e) (and_r (A && B && C) D F);
    }

pub digits : (s : Bool) (m : ℕ) (e : ℤ) → T (fits binary64 (fin s m e)) → m < 2 ^ 53
digits s zero e F = lit< tt
digits s (suc m) e F = (held s m e F).short

-- ---- in units of the smallest f64, 2 ^ -1074, a value m * 2 ^ e is m * 2 ^ power e
abbrev pub power : ℤ → ℕ
power (pos k) = k + 1074
power (negsuc k) = 1074 - suc k

pub pow_lt_back : (i p : ℕ) → 2 ^ i < 2 ^ p → i < p
pow_lt_back i p h = lt_of_not-le (λ (g : p ≤ i). lt_irrefl (2 ^ i) (lt_of_lt_of_le h (pow_mono g)))

pub pow_le_back : (i p : ℕ) → 2 ^ i ≤ 2 ^ p → i ≤ p
pow_le_back i p h = le_of_suc-le-suc (lt_of_not-le (λ (g : suc p ≤ i). lt_irrefl p (pow_lt_back p p (lt_of_lt_of_le (step p) (le_trans (pow_mono g) h)))))
  where
    step : (p : ℕ) → 2 ^ p < 2 ^ suc p
    step p = pow-lt (le_refl (suc p))

pub in_units : (m : ℕ) (e : ℤ) → down e ≤ 2 ^ 1074 → m * up e * 2 ^ 1074 ≡ m * 2 ^ power e * down e
in_units m (pos k) h = mul_assoc m (2 ^ k) (2 ^ 1074) ∙ ap (λ (p : ℕ). m * p) (sym (pow-add 2 k 1074)) ∙ sym (mul-one (m * 2 ^ (k + 1074)))
in_units m (negsuc k) h =
    let p = 2 ^ (1074 - suc k) in
    let q : p * 2 ^ suc k ≡ 2 ^ 1074 = sym (pow-add 2 (1074 - suc k) (suc k)) ∙ ap (λ (i : ℕ). 2 ^ i) (back (suc k) (pow_le_back (suc k) 1074 h)) in
    ap (λ (n : ℕ). n * 2 ^ 1074) (mul-one m) ∙ sym (ap (λ (w : ℕ). m * w) q) ∙ sym (mul_assoc m p (2 ^ suc k))
  where
    back : (i : ℕ) → i ≤ 1074 → 1074 - i + i ≡ 1074
    back i g = omega arith
