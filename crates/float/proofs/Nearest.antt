-- The root of an f64 above 0 is the nearest f64 (`root_nearest`), no other is (`nearest_unique`), and where the exact root is an f64 it is that (`root_exact`).
use Rattle.std.proofs.Common.{◌≡◌, ℕ, zero, suc, ◌+◌, ◌-◌, ◌*◌, ◌/◌, ◌^◌, ◌<◌, ◌≤◌, true, false, T, ltb, ◌⊎◌, sym, refl, ap, ◌∙◌, subst, inl, inr, le_trans, le_of_eq, lt_of_lt_of_le, lt_of_le_of_lt, lt_irrefl, mul-le-mul_right, mul_assoc, mul_comm, lt_of_mul-lt-mul_right, eq-or-lt_of_le, mul-lt-mul_of_pos_right, mul-pos, mul_right_comm, arith, lit<, ltb→lt, lt→ltb, pow_pos}
use native.Mathlib.Nat.{div-eq_of_eq-mul_left}
use lib.Ieee.{Float, nan, inf, fin, binary64, up, down, size, fits, lt, to_bits, of_bits}
use lib.Ieee.Bits.{of_bits-to_bits}
use lib.Ieee.Exact.{HasValue}
use lib.Ieee.Nearest.{div_same}
use lib.Ieee.Positive.{num, den, positive, den_pos, value→cross, positive_of_value}
use Rattle.float.specs.Root.{root}
use Rattle.float.specs.RootTheorems.{unsigned, SquareIs, MidpointUnder, MidpointOver, Nearest}
use Rattle.float.proofs.Held.{held, power, in_units}
use Rattle.float.proofs.Whole.{square_le}
use Rattle.float.proofs.Scaled.{Scaled, found, root_value, root_fits, least_kept}
use Rattle.float.proofs.Patterns.{units, root_of, scaled, here_or_on}
use Rattle.float.proofs.Squares.{next_above, next_below, midpoint_under, midpoint_over}

-- ---- in units of the smallest f64
-- y is m * 2 ^ p units, with at most 53 digits in m
abbrev Units : Float → ℕ → ℕ → Type 0
Units y m p = (m < 2 ^ 53) × (num y * 2 ^ 1074 ≡ m * 2 ^ p * den y)

units_of : (y : Float) → T (fits binary64 y) → T (unsigned y) → (m : ℕ) × (p : ℕ) × Units y m p
units_of nan F u = absurd u
units_of (inf s) F u = absurd u
units_of (fin true m e) F u = absurd u
units_of (fin false zero e) F u = (0, 0, (lit< tt, none (up e) (2 ^ 1074) (down e)))
  where
    none : (a b c : ℕ) → 0 * a * b ≡ 0 * 1 * c
    none a b c = omega arith
units_of (fin false (suc m) e) F u = let H = held false m e F in (suc m, power e, (H.short, in_units (suc m) e H.above))

pub positive-unsigned : (x : Float) → T (positive x) → T (unsigned x)
positive-unsigned nan p = absurd p
positive-unsigned (inf s) p = absurd p
positive-unsigned (fin true m e) p = absurd p
positive-unsigned (fin false m e) p = tt

pub exact_units : (x : Float) → T (fits binary64 x) → T (positive x) → num x * 2 ^ 1074 ≡ units x * den x
exact_units x F p =
    let u = units_of x F (positive-unsigned x p) in
    u.2.1 ∙ ap (λ (n : ℕ). n * den x) (sym (div-eq_of_eq-mul_left (den_pos x) u.2.1))

-- ---- the order of two such values is that of their units
lt_is : (x y : Float) → T (unsigned x) → T (unsigned y) → lt x y ≡ ltb (num x * den y) (num y * den x)
unfolding lt
lt_is nan y u v = absurd u
lt_is (inf s) y u v = absurd u
lt_is (fin true m e) y u v = absurd u
lt_is (fin false m e) nan u v = absurd v
lt_is (fin false m e) (inf t) u v = absurd v
lt_is (fin false m e) (fin true n d) u v = absurd v
lt_is (fin false m e) (fin false n d) u v = refl

pub lt→cross : (x y : Float) → T (unsigned x) → T (unsigned y) → T (lt x y) → num x * den y < num y * den x
lt→cross x y u v h = ltb→lt (num x * den y) (num y * den x) (subst T (lt_is x y u v) h)

pub cross→lt : (x y : Float) → T (unsigned x) → T (unsigned y) → num x * den y < num y * den x → T (lt x y)
cross→lt x y u v h = subst T (sym (lt_is x y u v)) (lt→ltb (num x * den y) (num y * den x) h)

-- a / b < c / d in units l
units_lt : (a b c d y z l : ℕ) → 0 < l → a * l ≡ y * b → c * l ≡ z * d → a * d < c * b → y < z
units_lt a b c d y z l L e f h =
    lt_of_mul-lt-mul_right (b * d)
    (lt_of_le_of_lt (le_of_eq (sym (mul_assoc y b d) ∙ ap (λ (k : ℕ). k * d) (sym e) ∙ mul_right_comm a l d))
    (lt_of_lt_of_le (mul-lt-mul_of_pos_right h L) (le_of_eq (mul_right_comm c b l ∙ ap (λ (k : ℕ). k * b) f ∙ mul_assoc z d b ∙ ap (λ (k : ℕ). z * k) (mul_comm d b)))))

-- ---- from squares of units to squares of values
module _ (ny dy nr dr nx dx y r n l : ℕ) (L : 0 < l) (ey : ny * l ≡ y * dy) (er : nr * l ≡ r * dr) (ex : nx * l ≡ n * dx) (Dy : 0 < dy) (Dr : 0 < dr) (Dx : 0 < dx) where
  sum_is : (ny * dr + nr * dy) * l ≡ (y + r) * (dy * dr)
  sum_is = go ny dr nr dy l ∙ ap (λ (k : ℕ). k * dr + nr * l * dy) ey ∙ ap (λ (k : ℕ). y * dy * dr + k * dy) er ∙ back y r dy dr
    where
      go : (a b c d l : ℕ) → (a * b + c * d) * l ≡ a * l * b + c * l * d
      go a b c d l = omega arith

      back : (y r a b : ℕ) → y * a * b + r * b * a ≡ (y + r) * (a * b)
      back y r a b = omega arith

  squared : (ny * dr + nr * dy) * (ny * dr + nr * dy) * dx * (l * l) ≡ (y + r) * (y + r) * (dy * dr * (dy * dr) * dx)
  squared = go (ny * dr + nr * dy) dx l ∙ ap (λ (k : ℕ). k * k * dx) sum_is ∙ back (y + r) (dy * dr) dx
    where
      go : (a b l : ℕ) → a * a * b * (l * l) ≡ a * l * (a * l) * b
      go a b l = omega arith

      back : (a b c : ℕ) → a * b * (a * b) * c ≡ a * a * (b * b * c)
      back a b c = omega arith

  scaled_up : nx * (2 * (dy * dr) * (2 * (dy * dr))) * (l * l) ≡ 4 * (n * l) * (dy * dr * (dy * dr) * dx)
  scaled_up = go nx (dy * dr) l ∙ ap (λ (k : ℕ). 4 * (k * l) * (dy * dr * (dy * dr))) ex ∙ back n dx l (dy * dr * (dy * dr))
    where
      go : (a b l : ℕ) → a * (2 * b * (2 * b)) * (l * l) ≡ 4 * (a * l * l) * (b * b)
      go a b l = omega arith

      back : (n d l b : ℕ) → 4 * (n * d * l) * b ≡ 4 * (n * l) * (b * d)
      back n d l b = omega arith

  all_pos : 0 < dy * dr * (dy * dr) * dx
  all_pos = mul-pos (mul-pos (mul-pos Dy Dr) (mul-pos Dy Dr)) Dx

  to_under : (y + r) * (y + r) < 4 * (n * l) → (ny * dr + nr * dy) * (ny * dr + nr * dy) * dx < nx * (2 * (dy * dr) * (2 * (dy * dr)))
  to_under h = lt_of_mul-lt-mul_right (l * l) (lt_of_le_of_lt (le_of_eq squared) (lt_of_lt_of_le (mul-lt-mul_of_pos_right h all_pos) (le_of_eq (sym scaled_up))))

  to_over : 4 * (n * l) < (y + r) * (y + r) → nx * (2 * (dy * dr) * (2 * (dy * dr))) < (ny * dr + nr * dy) * (ny * dr + nr * dy) * dx
  to_over h = lt_of_mul-lt-mul_right (l * l) (lt_of_le_of_lt (le_of_eq scaled_up) (lt_of_lt_of_le (mul-lt-mul_of_pos_right h all_pos) (le_of_eq (sym squared))))

-- ---- the root is the nearest
module _ (x : Float) (F : T (fits binary64 x)) (p : T (positive x)) (s w : ℕ) (S : Scaled (units x) s w) where
  abbrev r : ℕ
  r = (found s w + 1) / 2

  abbrev k : ℕ
  k = w / 2 + 485

  value : HasValue (root x) false (r * 2 ^ k) (2 ^ 1074)
  value = subst (λ (v : Float). HasValue v false (r * 2 ^ k) (2 ^ 1074)) (sym (root_of x p)) (root_value (units x) s w S)

  some : 0 < k
  some = go (w / 2)
    where
      go : (i : ℕ) → 0 < i + 485
      go i = omega arith

  full : 2 ^ 52 ≤ r
  full = least_kept (units x) s w S

  r_positive : T (positive (root x))
  r_positive = positive_of_value (root x) (r * 2 ^ k) (2 ^ 1074) value (mul-pos (lt_of_lt_of_le (lit< tt) full) (pow_pos k))

  r_units : num (root x) * 2 ^ 1074 ≡ r * 2 ^ k * den (root x)
  r_units = value→cross (root x) (r * 2 ^ k) (2 ^ 1074) value

  nearest_of : Nearest x (root x)
  nearest_of = record {
    is_f64 = subst (λ (v : Float). T (fits binary64 v)) (sym (root_of x p)) (root_fits (units x) s w S);
    above_zero = r_positive;
    under = λ y G u h.
        let v = units_of y G u in
        let l = units_lt (num y) (den y) (num (root x)) (den (root x)) (v.0 * 2 ^ v.1) (r * 2 ^ k) (2 ^ 1074) (pow_pos 1074) v.2.1 r_units (lt→cross y (root x) u (positive-unsigned (root x) r_positive) h) in
        to_under (num y) (den y) (num (root x)) (den (root x)) (num x) (den x) (v.0 * 2 ^ v.1) (r * 2 ^ k) (units x) (2 ^ 1074) (pow_pos 1074) v.2.1 r_units (exact_units x F p) (den_pos y) (den_pos (root x)) (den_pos x)
        (midpoint_under (units x) s w S (v.0 * 2 ^ v.1) (next_below v.0 v.1 r k v.2.0 full some l));
    over = λ y G u h.
        let v = units_of y G u in
        let l = units_lt (num (root x)) (den (root x)) (num y) (den y) (r * 2 ^ k) (v.0 * 2 ^ v.1) (2 ^ 1074) (pow_pos 1074) r_units v.2.1 (lt→cross (root x) y (positive-unsigned (root x) r_positive) u h) in
        to_over (num y) (den y) (num (root x)) (den (root x)) (num x) (den x) (v.0 * 2 ^ v.1) (r * 2 ^ k) (units x) (2 ^ 1074) (pow_pos 1074) v.2.1 r_units (exact_units x F p) (den_pos y) (den_pos (root x)) (den_pos x)
        (midpoint_over (units x) s w S (v.0 * 2 ^ v.1) (next_above v.0 v.1 r k v.2.0 full some l));
  }

pub root_nearest : (x : Float) → T (fits binary64 x) → T (positive x) → Nearest x (root x)
root_nearest x F p = let S = scaled x F p in nearest_of x F p S.0 S.1 S.2

-- ---- an f64 above 0 is known by its value
abbrev bits_by : ℕ → ℕ
bits_by n = let k = size n - 53 in 0 + k * 2 ^ 52 + n / 2 ^ k

by_units : (x : Float) → T (positive x) → to_bits binary64 x ≡ bits_by (units x)
unfolding to_bits
by_units nan p = absurd p
by_units (inf s) p = absurd p
by_units (fin true m e) p = absurd p
by_units (fin false m e) p = refl

pub same_value : (x y : Float) → T (fits binary64 x) → T (fits binary64 y) → T (positive x) → T (positive y) → num x * den y ≡ num y * den x → x ≡ y
same_value x y F G p q e =
    let l = 2 ^ 1074 in
    let u : units x ≡ units y = div_same (num x * l) (den x) (num y * l) (den y) (den_pos x) (den_pos y) (mul_right_comm (num x) l (den y) ∙ ap (λ (k : ℕ). k * l) e ∙ mul_right_comm (num y) (den x) l) in
    sym (of_bits-to_bits binary64 x F)
    ∙ ap (of_bits binary64) (by_units x p ∙ ap bits_by u ∙ sym (by_units y q))
    ∙ of_bits-to_bits binary64 y G

-- ---- there is no other
apart : (y r x : Float) → MidpointOver y r x → MidpointUnder r y x → ⊥
apart y r x o u = go (num y * den r) (num r * den y) (den y) (den r) (num x) (den x) o u
  where
    go : (a b c d n e : ℕ) → n * (2 * (c * d) * (2 * (c * d))) < (a + b) * (a + b) * e → (b + a) * (b + a) * e < n * (2 * (d * c) * (2 * (d * c))) → ⊥
    go a b c d n e o u = omega arith

three : (a b : ℕ) → (a < b) ⊎ ((b < a) ⊎ (a ≡ b))
three a b = elim (here_or_on a b) [ inl l ↦ inl l | inr g ↦ elim (eq-or-lt_of_le g) [ inl e ↦ inr (inr (sym e)) | inr l ↦ inr (inl l) ] ]

pub nearest_unique : (x r q : Float) → Nearest x r → Nearest x q → r ≡ q
nearest_unique x r q N M =
    let u = positive-unsigned r N.above_zero in
    let v = positive-unsigned q M.above_zero in
    elim (three (num r * den q) (num q * den r)) [
      | inl l ↦ let h = cross→lt r q u v l in absurd (apart q r x (N.over q M.is_f64 v h) (M.under r N.is_f64 u h))
      | inr (inl l) ↦ let h = cross→lt q r v u l in absurd (apart r q x (M.over r N.is_f64 u h) (N.under q M.is_f64 v h))
      | inr (inr e) ↦ same_value r q N.is_f64 M.is_f64 N.above_zero M.above_zero e
    ]

-- ---- where x is the square of an f64 r
module _ (nr dr nz dz nx dx : ℕ) (e : nr * nr * dx ≡ nx * (dr * dr)) where
  four_squares : nx * (2 * (dr * dz) * (2 * (dr * dz))) ≡ 2 * (nr * dz) * (2 * (nr * dz)) * dx
  four_squares = go nx dr dz ∙ ap (λ (k : ℕ). 4 * (k * (dz * dz))) (sym e) ∙ back nr dx dz
    where
      go : (n a b : ℕ) → n * (2 * (a * b) * (2 * (a * b))) ≡ 4 * (n * (a * a) * (b * b))
      go n a b = omega arith

      back : (n d z : ℕ) → 4 * (n * n * d * (z * z)) ≡ 2 * (n * z) * (2 * (n * z)) * d
      back n d z = omega arith

  not_under : nr * dz < nz * dr → (nr * dz + nz * dr) * (nr * dz + nz * dr) * dx < nx * (2 * (dr * dz) * (2 * (dr * dz))) → ⊥
  not_under h u =
      lt_irrefl (nx * (2 * (dr * dz) * (2 * (dr * dz))))
      (lt_of_le_of_lt (le_trans (le_of_eq four_squares) (mul-le-mul_right dx (square_le (2 * (nr * dz)) (nr * dz + nz * dr) (go (nr * dz) (nz * dr) h)))) u)
    where
      go : (a b : ℕ) → a < b → 2 * a ≤ a + b
      go a b h = omega arith

  not_over : nz * dr < nr * dz → nx * (2 * (dr * dz) * (2 * (dr * dz))) < (nr * dz + nz * dr) * (nr * dz + nz * dr) * dx → ⊥
  not_over h u =
      lt_irrefl ((nr * dz + nz * dr) * (nr * dz + nz * dr) * dx)
      (lt_of_le_of_lt (le_trans (mul-le-mul_right dx (square_le (nr * dz + nz * dr) (2 * (nr * dz)) (go (nr * dz) (nz * dr) h))) (le_of_eq (sym four_squares))) u)
    where
      go : (a b : ℕ) → b < a → a + b ≤ 2 * a
      go a b h = omega arith

pub root_exact : (x r : Float) → T (fits binary64 x) → T (positive x) → T (fits binary64 r) → T (positive r) → SquareIs r x → root x ≡ r
root_exact x r F p G q e =
    let z = root x in
    let N = root_nearest x F p in
    let u = positive-unsigned r q in
    let v = positive-unsigned z N.above_zero in
    elim (three (num r * den z) (num z * den r)) [
      | inl l ↦ absurd (not_under (num r) (den r) (num z) (den z) (num x) (den x) e l (N.under r G u (cross→lt r z u v l)))
      | inr (inl l) ↦ absurd (not_over (num r) (den r) (num z) (den z) (num x) (den x) e l (N.over r G u (cross→lt z r v u l)))
      | inr (inr h) ↦ sym (same_value r z G N.is_f64 q N.above_zero h)
    ]
