-- Whole numbers behind the theorems on the root: n units of the smallest f64, its root R = r * 2 ^ k in the same units with r of 53 digits, and another f64 of Y units.
-- The square of the midpoint (Y + R) / 2 is compared with n * 2 ^ 1074, as (Y + R) * (Y + R) with 4 * n * 2 ^ 1074.
use Rattle.std.proofs.Common.{◌≡◌, ℕ, zero, suc, ◌+◌, ◌-◌, ◌*◌, ◌/◌, ◌%◌, ◌^◌, ◌<◌, ◌≤◌, ◌⊎◌, sym, refl, ap, ◌∙◌, subst, inl, inr, le_trans, le_of_eq, lt_of_lt_of_le, lt_of_le_of_lt, lt_irrefl, mul-le-mul_right, mul_assoc, mul_comm, lt_of_mul-lt-mul_right, eq-or-lt_of_le, mul-le-mul_left, mul-lt-mul_of_pos_right, mul-pos, pow-suc, arith, pow_pos, pow_mono, pow-add}
use Rattle.float.proofs.Whole.{square_le}
use Rattle.float.proofs.Scaled.{Scaled, moved, found, four, moved_times, is_root, least_found}
use Rattle.float.proofs.Patterns.{here_or_on}

-- ---- the f64 nearest to R = r * 2 ^ k on either side, for an r of 53 digits: Y = m * 2 ^ p has at most 53 too
at_most : (m p k : ℕ) → m < 2 ^ 53 → p < k → m * 2 ^ p + 2 ^ (k - 1) ≤ 2 ^ 53 * 2 ^ (k - 1)
at_most m p k h l = go (m * 2 ^ p) m (2 ^ (k - 1)) (mul-le-mul_left m (pow_mono (less p k l))) h
  where
    less : (p k : ℕ) → p < k → p ≤ k - 1
    less p k l = omega arith

    under : (m q : ℕ) → m < 9007199254740992 → suc m * q ≤ 9007199254740992 * q
    under m q h = mul-le-mul_right q h

    go : (y m q : ℕ) → y ≤ m * q → m < 9007199254740992 → y + q ≤ 9007199254740992 * q
    go y m q a b = omega (arith, under m q b)

halve : (k : ℕ) → 0 < k → 2 ^ k ≡ 2 * 2 ^ (k - 1)
halve zero h = absurd (lt_irrefl 0 h)
halve (suc k) h = pow-suc 2 k ∙ mul_comm (2 ^ k) 2 ∙ ap (λ (i : ℕ). 2 * 2 ^ i) (go k)
  where
    go : (k : ℕ) → k ≡ suc k - 1
    go k = omega arith

-- Y is a multiple of 2 ^ k where p is no less
multiple : (m p k : ℕ) → k ≤ p → m * 2 ^ p ≡ m * 2 ^ (p - k) * 2 ^ k
multiple m p k h = ap (λ (i : ℕ). m * 2 ^ i) (sym (back p k h)) ∙ ap (λ (q : ℕ). m * q) (pow-add 2 (p - k) k) ∙ sym (mul_assoc m (2 ^ (p - k)) (2 ^ k))
  where
    back : (p k : ℕ) → k ≤ p → p - k + k ≡ p
    back p k h = omega arith

next_multiple : (c r q : ℕ) → c * q < r * q → c * q + q ≤ r * q
next_multiple c r q h = le_trans (le_of_eq (go c q)) (mul-le-mul_right q (lt_of_mul-lt-mul_right q h))
  where
    go : (c q : ℕ) → c * q + q ≡ suc c * q
    go c q = omega arith

module _ (m p r k : ℕ) (few : m < 2 ^ 53) (full : 2 ^ 52 ≤ r) (some : 0 < k) where
  pub next_above : r * 2 ^ k < m * 2 ^ p → r * 2 ^ k + 2 ^ k ≤ m * 2 ^ p
  next_above h =
      elim (here_or_on p k) [
        | inl l ↦ absurd (clash (m * 2 ^ p) (2 ^ (k - 1)) (2 ^ k) (r * 2 ^ k) (at_most m p k few l) (halve k some) (mul-le-mul_right (2 ^ k) full) h)
        | inr g ↦ subst (λ (y : ℕ). r * 2 ^ k + 2 ^ k ≤ y) (sym (multiple m p k g)) (next_multiple r (m * 2 ^ (p - k)) (2 ^ k) (subst (λ (y : ℕ). r * 2 ^ k < y) (multiple m p k g) h))
      ]
    where
      clash : (y q q' R : ℕ) → y + q ≤ 9007199254740992 * q → q' ≡ 2 * q → 4503599627370496 * q' ≤ R → R < y → ⊥
      clash y q q' R a b c d = omega arith

  -- below, the step is half as long where R is a power of two
  pub next_below : m * 2 ^ p < r * 2 ^ k → (m * 2 ^ p + 2 ^ k ≤ r * 2 ^ k) ⊎ ((r ≡ 2 ^ 52) × (2 * (m * 2 ^ p) + 2 ^ k ≤ 2 * (r * 2 ^ k)))
  next_below h =
      elim (here_or_on p k) [
        | inl l ↦
            elim (eq-or-lt_of_le full) [
              | inl e ↦ inr (sym e, subst (λ (x : ℕ). 2 * (m * 2 ^ p) + 2 ^ k ≤ 2 * (x * 2 ^ k)) e (half (m * 2 ^ p) (2 ^ (k - 1)) (2 ^ k) (at_most m p k few l) (halve k some)))
              | inr g ↦ inl (le_trans (whole (m * 2 ^ p) (2 ^ (k - 1)) (2 ^ k) (at_most m p k few l) (halve k some)) (mul-le-mul_right (2 ^ k) g))
            ]
        | inr g ↦ inl (subst (λ (y : ℕ). y + 2 ^ k ≤ r * 2 ^ k) (sym (multiple m p k g)) (next_multiple (m * 2 ^ (p - k)) r (2 ^ k) (subst (λ (y : ℕ). y < r * 2 ^ k) (multiple m p k g) h)))
      ]
    where
      half : (y q q' : ℕ) → y + q ≤ 9007199254740992 * q → q' ≡ 2 * q → 2 * y + q' ≤ 2 * (4503599627370496 * q')
      half y q q' a b = omega arith

      whole : (y q q' : ℕ) → y + q ≤ 9007199254740992 * q → q' ≡ 2 * q → y + q' ≤ suc 4503599627370496 * q'
      whole y q q' a b = omega arith

-- ---- squares over a common factor
square-times : (c q : ℕ) → c * q * (c * q) ≡ c * c * (q * q)
square-times c q = omega arith

module _ (m q : ℕ) (some : 0 < q) where
  square_under : (a c : ℕ) → a ≤ c * q → c * c < m → a * a < m * (q * q)
  square_under a c h l = lt_of_le_of_lt (le_trans (square_le a (c * q) h) (le_of_eq (square-times c q))) (mul-lt-mul_of_pos_right l (mul-pos some some))

  square_over : (a c : ℕ) → c * q ≤ a → m < c * c → m * (q * q) < a * a
  square_over a c h l = lt_of_lt_of_le (mul-lt-mul_of_pos_right l (mul-pos some some)) (le_trans (le_of_eq (sym (square-times c q))) (square_le (c * q) a h))

-- ---- the root of n units
module _ (n s w : ℕ) (S : Scaled n s w) where
  abbrev q : ℕ
  q = found s w

  abbrev r : ℕ
  r = (q + 1) / 2

  abbrev k : ℕ
  k = w / 2 + 485

  four_times : 4 * (n * 2 ^ 1074) ≡ moved s w * (2 ^ k * 2 ^ k)
  four_times =
      ap (λ (i : ℕ). 4 * i) (sym (mul_assoc n (4 ^ 54) (4 ^ 483)) ∙ ap (λ (i : ℕ). i * 4 ^ 483) (moved_times n s w S))
      ∙ go (moved s w) (4 ^ suc (w / 2)) (4 ^ 483)
      ∙ ap (λ (i : ℕ). moved s w * i) (ap (λ (i : ℕ). 4 ^ suc (w / 2) * i) refl ∙ sym (pow-add 4 (suc (w / 2)) 484) ∙ ap (λ (i : ℕ). 4 ^ i) (up w) ∙ four k)
    where
      go : (m a b : ℕ) → 4 * (m * a * b) ≡ m * (a * (b * 4))
      go m a b = omega arith

      up : (w : ℕ) → suc (w / 2) + 484 ≡ w / 2 + 485
      up w = omega arith

  -- the square of an odd root is not the number, which is even
  odd_below : q % 2 ≡ 1 → q * q < moved s w
  odd_below e = go q (q / 2) (s * (w % 2 + 1)) (half q e) (is_root n s w S).0
    where
      half : (q : ℕ) → q % 2 ≡ 1 → q ≡ 2 * (q / 2) + 1
      half q e = omega arith

      even : (h m : ℕ) → (2 * h + 1) * (2 * h + 1) ≤ m * 18014398509481984 → (2 * h + 1) * (2 * h + 1) < m * 18014398509481984
      even h m l = omega arith

      go : (q h m : ℕ) → q ≡ 2 * h + 1 → q * q ≤ m * 18014398509481984 → q * q < m * 18014398509481984
      go q h m e l = subst (λ (i : ℕ). i * i < m * 18014398509481984) (sym e) (even h m (subst (λ (i : ℕ). i * i ≤ m * 18014398509481984) e l))

  under_root : (c : ℕ) → c + 1 ≡ 2 * r → c * c < moved s w
  under_root c e = go (q % 2) refl
    where
      same : (q c : ℕ) → q % 2 ≡ 1 → c + 1 ≡ 2 * ((q + 1) / 2) → c ≡ q
      same q c o e = omega arith

      less : (q c : ℕ) → q % 2 ≡ 0 → c + 1 ≡ 2 * ((q + 1) / 2) → suc c ≤ q
      less q c o e = omega arith

      grown : (c : ℕ) → c * c < suc c * suc c
      grown c = omega arith

      go : (b : ℕ) → q % 2 ≡ b → c * c < moved s w
      go zero o = lt_of_lt_of_le (grown c) (le_trans (square_le (suc c) q (less q c o e)) (is_root n s w S).0)
      go (suc zero) o = subst (λ (i : ℕ). i * i < moved s w) (sym (same q c o e)) (odd_below o)
      go (suc (suc b)) o = absurd (none q b o)
        where
          none : (q b : ℕ) → q % 2 ≡ suc (suc b) → ⊥
          none q b e = omega arith

  over_root : moved s w < (2 * r + 1) * (2 * r + 1)
  over_root = lt_of_lt_of_le (is_root n s w S).1 (square_le (q + 1) (2 * r + 1) (go q))
    where
      go : (q : ℕ) → q + 1 ≤ 2 * ((q + 1) / 2) + 1
      go q = omega arith

  pub midpoint_under : (y : ℕ) → (y + 2 ^ k ≤ r * 2 ^ k) ⊎ ((r ≡ 2 ^ 52) × (2 * y + 2 ^ k ≤ 2 * (r * 2 ^ k))) → (y + r * 2 ^ k) * (y + r * 2 ^ k) < 4 * (n * 2 ^ 1074)
  midpoint_under y h =
      subst (λ (i : ℕ). (y + r * 2 ^ k) * (y + r * 2 ^ k) < i) (sym four_times)
      (elim h [
        | inl l ↦ square_under (moved s w) (2 ^ k) (pow_pos k) (y + r * 2 ^ k) (2 * r - 1) (whole y r (2 ^ k) (some q (least_found n s w S)) l) (under_root (2 * r - 1) (back r (some q (least_found n s w S))))
        | inr l ↦
            quarter (y + r * 2 ^ k) (moved s w) (2 ^ k * 2 ^ k)
            (square_under (4 * moved s w) (2 ^ k) (pow_pos k) (2 * (y + r * 2 ^ k)) (2 * q - 1) (half y r q (2 ^ k) (is_power q (least_found n s w S) l.0) l.1) (under_double q (moved s w) (least_found n s w S) (is_root n s w S).0))
      ])
    where
      some : (q : ℕ) → 9007199254740992 ≤ q → 0 < (q + 1) / 2
      some q h = omega arith

      back : (r : ℕ) → 0 < r → 2 * r - 1 + 1 ≡ 2 * r
      back r h = omega arith

      whole : (y r p : ℕ) → 0 < r → y + p ≤ r * p → y + r * p ≤ (2 * r - 1) * p
      whole y zero p h l = absurd (lt_irrefl 0 h)
      whole y (suc r) p h l = subst (λ (i : ℕ). y + suc r * p ≤ i * p) (odd r) (go y r p l)
        where
          odd : (r : ℕ) → 2 * r + 1 ≡ 2 * suc r - 1
          odd r = omega arith

          go : (y r p : ℕ) → y + p ≤ suc r * p → y + suc r * p ≤ (2 * r + 1) * p
          go y r p l = omega arith

      is_power : (q : ℕ) → 9007199254740992 ≤ q → (q + 1) / 2 ≡ 4503599627370496 → (q ≡ 9007199254740992) × ((q + 1) / 2 ≡ 4503599627370496)
      is_power q h e = omega arith

      half : (y r q p : ℕ) → (q ≡ 9007199254740992) × (r ≡ 4503599627370496) → 2 * y + p ≤ 2 * (r * p) → 2 * (y + r * p) ≤ (2 * q - 1) * p
      half y r q p e l = subst (λ (i : ℕ). 2 * (y + r * p) ≤ (2 * i - 1) * p) (sym e.0) (subst (λ (i : ℕ). 2 * (y + i * p) ≤ (2 * 9007199254740992 - 1) * p) (sym e.1) (go y p (subst (λ (i : ℕ). 2 * y + p ≤ 2 * (i * p)) e.1 l)))
        where
          go : (y p : ℕ) → 2 * y + p ≤ 2 * (4503599627370496 * p) → 2 * (y + 4503599627370496 * p) ≤ 18014398509481983 * p
          go y p l = omega arith

      under_double : (q m : ℕ) → 9007199254740992 ≤ q → q * q ≤ m → (2 * q - 1) * (2 * q - 1) < 4 * m
      under_double zero m h l = omega arith
      under_double (suc q) m h l = subst (λ (i : ℕ). i * i < 4 * m) (odd q) (go q m l)
        where
          odd : (q : ℕ) → 2 * q + 1 ≡ 2 * suc q - 1
          odd q = omega arith

          go : (q m : ℕ) → suc q * suc q ≤ m → (2 * q + 1) * (2 * q + 1) < 4 * m
          go q m l = omega arith

      quarter : (a m p : ℕ) → 2 * a * (2 * a) < 4 * m * p → a * a < m * p
      quarter a m p h = omega arith

  pub midpoint_over : (y : ℕ) → r * 2 ^ k + 2 ^ k ≤ y → 4 * (n * 2 ^ 1074) < (y + r * 2 ^ k) * (y + r * 2 ^ k)
  midpoint_over y h =
      subst (λ (i : ℕ). i < (y + r * 2 ^ k) * (y + r * 2 ^ k)) (sym four_times)
      (square_over (moved s w) (2 ^ k) (pow_pos k) (y + r * 2 ^ k) (2 * r + 1) (go y r (2 ^ k) h) over_root)
    where
      go : (y r p : ℕ) → r * p + p ≤ y → (2 * r + 1) * p ≤ y + r * p
      go y r p h = omega arith
