-- The root of n units of the smallest f64, for an n that is s * 2 ^ (w - 52) with a significand s of 53 digits: what `whole_root` finds of it, the value that `root_of_units` rounds it to, and that value's bits.
use Rattle.std.proofs.Common.{◌≡◌, ℕ, zero, suc, ◌+◌, ◌-◌, ◌*◌, ◌/◌, ◌%◌, ◌^◌, ◌<◌, ◌≤◌, Bool, true, false, cond, T, eqb, sym, refl, ap, ◌∙◌, subst, true≢false, le_trans, le_of_eq, lt_of_lt_of_le, lt_of_le_of_lt, mul-le-mul_right, mul_assoc, mul_comm, le_antisymm, lt_of_mul-lt-mul_right, suc-add, mul-lt-mul_of_pos_right, mul-pos, pow-suc, lt_of_not-le, not-le_of_lt, le_of_mul-le-mul_right, arith, lit<, eqb→eq, pow_pos, pow_mono, pow-add, shl_lt}
use Prim.Native.Nat.{compare}
use native.Mathlib.Nat.{div-eq_of_eq-mul_left}
use lib.Pow.{shl-shr}
use lib.Ieee.{Float, nan, inf, fin, binary64, up, down, size, round, nearest, fits, to_bits, of_bits}
use lib.Ieee.Digits.{size-lt, size-le}
use lib.Ieee.Fits.{down_pos, round-fits}
use lib.Ieee.Bits.{of_bits-to_bits}
use lib.Ieee.Exact.{HasValue}
use lib.Ieee.Nearest.{closest, closest_same}
use lib.Ieee.Order.{drop, kept}
use lib.Ieee.Scale.{grid, round_val}
use Rattle.float.specs.Root.{whole_root, twice_root, root_of_units}
use Rattle.float.proofs.Whole.{IsRoot, root_is, root-le}

-- ---- how many digits a number has
pub size_is : (n z : ℕ) → 2 ^ z ≤ n → n < 2 ^ suc z → size n ≡ suc z
size_is n z l u = le_antisymm (size-le n (suc z) u) (lt_of_not-le (λ (g : size n ≤ z). not-le_of_lt (lt_of_lt_of_le (size-lt n) (pow_mono g)) l))

-- ---- the bits of a value whose significand has 53 digits
pub bits_of : (v : Float) (r k : ℕ) → HasValue v false (r * 2 ^ k) (2 ^ 1074) → 2 ^ 52 ≤ r → r < 2 ^ 53 → to_bits binary64 v ≡ k * 2 ^ 52 + r
unfolding to_bits
bits_of nan r k v l u = absurd v
bits_of (inf s) r k v l u = absurd v
bits_of (fin true m e) r k v l u = absurd (true≢false v.0)
bits_of (fin false m e) r k v l u =
    let n : m * up e * 2 ^ 1074 / down e ≡ r * 2 ^ k = div-eq_of_eq-mul_left (down_pos e) v.1 in
    let z : size (r * 2 ^ k) ≡ suc (52 + k) = size_is (r * 2 ^ k) (52 + k) (le_trans (le_of_eq (pow-add 2 52 k)) (mul-le-mul_right (2 ^ k) l)) (subst (λ (i : ℕ). r * 2 ^ k < 2 ^ i) (suc-add 52 k) (shl_lt 53 k u)) in
    ap (λ (i : ℕ). 0 + (size i - 53) * 2 ^ 52 + i / 2 ^ (size i - 53)) n
    ∙ ap (λ (i : ℕ). 0 + (i - 53) * 2 ^ 52 + r * 2 ^ k / 2 ^ (i - 53)) z
    ∙ ap (λ (i : ℕ). 0 + i * 2 ^ 52 + r * 2 ^ k / 2 ^ i) (less k)
    ∙ ap (λ (i : ℕ). 0 + k * 2 ^ 52 + i) (shl-shr r k)
    ∙ tidy k r
  where
    less : (k : ℕ) → suc (52 + k) - 53 ≡ k
    less k = omega arith

    tidy : (k r : ℕ) → 0 + k * 4503599627370496 + r ≡ k * 4503599627370496 + r
    tidy k r = omega arith

-- ---- powers of four
pub four : (k : ℕ) → 4 ^ k ≡ 2 ^ k * 2 ^ k
four zero = refl
four (suc k) = pow-suc 4 k ∙ ap (λ (p : ℕ). p * 4) (four k) ∙ go (2 ^ k) ∙ ap (λ (p : ℕ). p * p) (sym (pow-suc 2 k))
  where
    go : (p : ℕ) → p * p * 4 ≡ p * 2 * (p * 2)
    go p = omega arith

pub two_of : (r : ℕ) → r < 2 → 2 ^ r ≡ r + 1
two_of zero h = refl
two_of (suc zero) h = refl
two_of (suc (suc r)) h = absurd (go r h)
  where
    go : (r : ℕ) → suc (suc r) < 2 → ⊥
    go r h = omega arith

pub halved : (w : ℕ) → 2 ^ w ≡ 4 ^ (w / 2) * (w % 2 + 1)
halved w =
    ap (λ (i : ℕ). 2 ^ i) (parts w)
    ∙ pow-add 2 (w / 2 + w / 2) (w % 2)
    ∙ ap (λ (p : ℕ). p * 2 ^ (w % 2)) (pow-add 2 (w / 2) (w / 2) ∙ sym (four (w / 2)))
    ∙ ap (λ (p : ℕ). 4 ^ (w / 2) * p) (two_of (w % 2) (bit w))
  where
    parts : (w : ℕ) → w ≡ w / 2 + w / 2 + w % 2
    parts w = omega arith

    bit : (w : ℕ) → w % 2 < 2
    bit w = omega arith

-- ---- n is s * 2 ^ (w - 52)
pub record Scaled (n s w : ℕ) : Type 0 where
  pub least : 2 ^ 52 ≤ s
  pub most : s < 2 ^ 53
  pub finite : w < 2098
  pub same : n * 2 ^ 52 ≡ s * 2 ^ w

-- the number that `whole_root` is asked for, and what it finds
abbrev pub moved : ℕ → ℕ → ℕ
moved s w = s * (w % 2 + 1) * 4 ^ 27

abbrev pub found : ℕ → ℕ → ℕ
found s w = whole_root 54 (moved s w)

-- s or 2s has at most 54 digits
pub doubled_most : (s w : ℕ) → s < 2 ^ 53 → s * (w % 2 + 1) ≤ 2 ^ 54 - 2
doubled_most s w h = go s (w % 2) h (bit w)
  where
    bit : (w : ℕ) → w % 2 < 2
    bit w = omega arith

    go : (s r : ℕ) → s < 9007199254740992 → r < 2 → s * (r + 1) ≤ 18014398509481982
    go s zero h b = omega arith
    go s (suc zero) h b = omega arith
    go s (suc (suc r)) h b = omega arith

module _ (n s w : ℕ) (S : Scaled n s w) where
  pub size_of : size n ≡ suc w
  size_of =
      size_is n w
      (le_of_mul-le-mul_right (le_trans (le_of_eq (mul_comm (2 ^ w) (2 ^ 52))) (le_trans (mul-le-mul_right (2 ^ w) S.least) (le_of_eq (sym S.same)))) (pow_pos 52))
      (lt_of_mul-lt-mul_right (2 ^ 52) (lt_of_le_of_lt (le_of_eq S.same) (lt_of_lt_of_le (mul-lt-mul_of_pos_right S.most (pow_pos w)) (le_of_eq (go (2 ^ w) ∙ ap (λ (p : ℕ). p * 2 ^ 52) (sym (pow-suc 2 w)))))))
    where
      go : (p : ℕ) → 9007199254740992 * p ≡ p * 2 * 4503599627370496
      go p = omega arith

  fours : (size n + 1) / 2 ≡ suc (w / 2)
  fours = ap (λ (z : ℕ). (z + 1) / 2) size_of ∙ go w
    where
      go : (w : ℕ) → (suc w + 1) / 2 ≡ suc (w / 2)
      go w = omega arith

  pub moved_times : n * 4 ^ 54 ≡ moved s w * 4 ^ suc (w / 2)
  moved_times =
      go n s (4 ^ (w / 2)) (w % 2 + 1) (S.same ∙ ap (λ (k : ℕ). s * k) (halved w))
      ∙ ap (λ (k : ℕ). moved s w * k) (sym (pow-suc 4 (w / 2)))
    where
      go : (n s p r : ℕ) → n * 4503599627370496 ≡ s * (p * r) → n * 324518553658426726783156020576256 ≡ s * r * 18014398509481984 * (p * 4)
      go n s p r e = omega arith

  moved_is : n * 4 ^ 54 / 4 ^ suc (w / 2) ≡ moved s w
  moved_is =
      div-eq_of_eq-mul_left (subst (λ (k : ℕ). 0 < k) (sym (four (suc (w / 2)))) (mul-pos (pow_pos (suc (w / 2))) (pow_pos (suc (w / 2)))))
      moved_times

  -- ---- the root has 54 digits
  low : 4 ^ 53 ≤ moved s w
  low = go s (w % 2) S.least
    where
      go : (s r : ℕ) → 4503599627370496 ≤ s → 81129638414606681695789005144064 ≤ s * (r + 1) * 18014398509481984
      go s r h = omega arith

  high : moved s w ≤ (2 ^ 53 - 1) * 2 * 4 ^ 27
  high = mul-le-mul_right (4 ^ 27) (doubled_most s w S.most)

  in_range : moved s w < 4 ^ 54
  in_range = lt_of_le_of_lt high (lit< tt)

  pub is_root : IsRoot (moved s w) (found s w)
  is_root = root_is 54 (moved s w) in_range

  pub least_found : 2 ^ 53 ≤ found s w
  least_found = root-le (2 ^ 53) (found s w) (lt_of_le_of_lt low is_root.1)

  pub most_found : found s w ≤ 2 ^ 54 - 2
  most_found = root-le (found s w) (2 ^ 54 - 2) (lt_of_le_of_lt (le_trans is_root.0 high) (lit< tt))

  -- ---- and rounded to 53
  -- no tie arises: where the root is whole it is even, as its square is
  abbrev sticky : Bool → ℕ
  sticky b = 2 * found s w + cond b 0 1

  quarter : (a h r : ℕ) → a / 4 ≡ h → a % 4 ≡ r → closest a 4 ≡ nearest h (compare (r * 2) 4)
  quarter a h r p q = ap (λ (k : ℕ). nearest k (compare (a % 4 * 2) 4)) p ∙ ap (λ (k : ℕ). nearest h (compare (k * 2) 4)) q

  kept_is : (b : Bool) → (T b → found s w * found s w ≡ moved s w) → closest (sticky b) 4 ≡ (found s w + 1) / 2
  kept_is true y = even (found s w) (found s w % 2) (s * (w % 2 + 1)) refl (y tt)
    where
      even : (q r m : ℕ) → q % 2 ≡ r → q * q ≡ m * 18014398509481984 → closest (2 * q + 0) 4 ≡ (q + 1) / 2
      even q zero m e h = quarter (2 * q + 0) ((q + 1) / 2) 0 (omega arith) (omega arith)
      even q (suc r) m e h = absurd (odd q (q / 2) m (half q r e) h)
        where
          half : (q r : ℕ) → q % 2 ≡ suc r → q ≡ 2 * (q / 2) + 1
          half q r e = omega arith

          odd : (q k m : ℕ) → q ≡ 2 * k + 1 → q * q ≡ m * 18014398509481984 → ⊥
          odd q k m e h = square k m (subst (λ (i : ℕ). i * i ≡ m * 18014398509481984) e h)
            where
              square : (k m : ℕ) → (2 * k + 1) * (2 * k + 1) ≡ m * 18014398509481984 → ⊥
              square k m h = omega arith
  kept_is false y = odd (found s w) (found s w % 2) refl
    where
      odd : (q r : ℕ) → q % 2 ≡ r → closest (2 * q + 1) 4 ≡ (q + 1) / 2
      odd q zero e = quarter (2 * q + 1) ((q + 1) / 2) 1 (omega arith) (omega arith)
      odd q (suc zero) e = quarter (2 * q + 1) (q / 2) 3 (omega arith) (omega arith) ∙ up q e
        where
          up : (q : ℕ) → q % 2 ≡ 1 → suc (q / 2) ≡ (q + 1) / 2
          up q e = omega arith
      odd q (suc (suc r)) e = absurd (none q r e)
        where
          none : (q r : ℕ) → q % 2 ≡ suc (suc r) → ⊥
          none q r e = omega arith

  twice_kept : closest (twice_root 54 (moved s w)) 4 ≡ (found s w + 1) / 2
  unfolding twice_root
  twice_kept = kept_is (eqb (found s w * found s w) (moved s w)) (eqb→eq (found s w * found s w) (moved s w))

  twice_least : 2 ^ 54 ≤ twice_root 54 (moved s w)
  unfolding twice_root
  twice_least = go (found s w) (cond (eqb (found s w * found s w) (moved s w)) 0 1) least_found
    where
      go : (q d : ℕ) → 9007199254740992 ≤ q → 18014398509481984 ≤ 2 * q + d
      go q d h = omega arith

  twice_most : twice_root 54 (moved s w) < 2 ^ 55
  unfolding twice_root
  twice_most = go (found s w) (eqb (found s w * found s w) (moved s w)) most_found
    where
      go : (q : ℕ) (b : Bool) → q ≤ 18014398509481982 → 2 * q + cond b 0 1 < 36028797018963968
      go q true h = omega arith
      go q false h = omega arith

-- ---- a number t of 55 digits, times 2 ^ j, over 2 ^ 592: what `round` keeps of it
module _ (t j : ℕ) (lo : 2 ^ 54 ≤ t) (hi : t < 2 ^ 55) where
  whole_part : t * 2 ^ j * 2 ^ 1074 / 2 ^ 592 ≡ t * 2 ^ (j + 482)
  whole_part =
      div-eq_of_eq-mul_left (pow_pos 592)
      (mul_assoc t (2 ^ j) (2 ^ 1074) ∙ sym (mul_assoc t (2 ^ (j + 482)) (2 ^ 592) ∙ ap (λ (p : ℕ). t * p) (ap (λ (p : ℕ). p * 2 ^ 592) (pow-add 2 j 482) ∙ mul_assoc (2 ^ j) (2 ^ 482) (2 ^ 592))))

  drop_is : drop 53 (t * 2 ^ j * 2 ^ 1074) (2 ^ 592) ≡ j + 484
  drop_is =
      ap (λ (k : ℕ). size k - 53) whole_part
      ∙ ap (λ (z : ℕ). z - 53)
      (size_is (t * 2 ^ (j + 482)) (54 + (j + 482)) (le_trans (le_of_eq (pow-add 2 54 (j + 482))) (mul-le-mul_right (2 ^ (j + 482)) lo)) (subst (λ (i : ℕ). t * 2 ^ (j + 482) < 2 ^ i) (suc-add 54 (j + 482)) (shl_lt 55 (j + 482) hi)))
      ∙ go j
    where
      go : (j : ℕ) → suc (54 + (j + 482)) - 53 ≡ j + 484
      go j = omega arith

  kept_as : kept 53 (t * 2 ^ j * 2 ^ 1074) (2 ^ 592) ≡ closest t 4
  kept_as =
      ap (λ (k : ℕ). closest (t * 2 ^ j * 2 ^ 1074) (2 ^ 592 * 2 ^ k)) drop_is
      ∙ closest_same (t * 2 ^ j * 2 ^ 1074) (2 ^ 592 * 2 ^ (j + 484)) t 4 (mul-pos (pow_pos 592) (pow_pos (j + 484))) (lit< tt)
      (ap (λ (p : ℕ). p * 4) (mul_assoc t (2 ^ j) (2 ^ 1074))
      ∙ mul_assoc t (2 ^ j * 2 ^ 1074) 4
      ∙ ap (λ (p : ℕ). t * p) (mul_assoc (2 ^ j) (2 ^ 1074) 4 ∙ sym (mul_comm (2 ^ 592) (2 ^ (j + 484)) ∙ ap (λ (p : ℕ). p * 2 ^ 592) (pow-add 2 j 484) ∙ mul_assoc (2 ^ j) (2 ^ 484) (2 ^ 592))))

  rounded : (r : ℕ) → closest t 4 ≡ r → r < 2 ^ 53 → j < 1050 → HasValue (round binary64 false (t * 2 ^ j) (2 ^ 592)) false (r * 2 ^ (j + 484)) (2 ^ 1074)
  rounded r e small few =
      let g : grid binary64 (t * 2 ^ j) (2 ^ 592) ≡ r * 2 ^ (j + 484) = ap (λ (k : ℕ). k * 2 ^ drop 53 (t * 2 ^ j * 2 ^ 1074) (2 ^ 592)) (kept_as ∙ e) ∙ ap (λ (k : ℕ). r * 2 ^ k) drop_is in
      subst (λ (a : ℕ). HasValue (round binary64 false (t * 2 ^ j) (2 ^ 592)) false a (2 ^ 1074)) g
      (round_val binary64 (t * 2 ^ j) (2 ^ 592) (subst (λ (a : ℕ). a < 2 ^ 2098) (sym g) (lt_of_lt_of_le (shl_lt 53 (j + 484) small) (pow_mono (room j few)))))
    where
      room : (j : ℕ) → j < 1050 → 53 + (j + 484) ≤ 2098
      room j h = omega arith

-- ---- the root of n units
module _ (n s w : ℕ) (S : Scaled n s w) where
  pub least_kept : 2 ^ 52 ≤ (found s w + 1) / 2
  least_kept = go (found s w) (least_found n s w S)
    where
      go : (q : ℕ) → 9007199254740992 ≤ q → 4503599627370496 ≤ (q + 1) / 2
      go q h = omega arith

  pub most_kept : (found s w + 1) / 2 < 2 ^ 53
  most_kept = go (found s w) (most_found n s w S)
    where
      go : (q : ℕ) → q ≤ 18014398509481982 → (q + 1) / 2 < 9007199254740992
      go q h = omega arith

  units_are : root_of_units n ≡ round binary64 false (twice_root 54 (moved s w) * 2 ^ suc (w / 2)) (2 ^ 592)
  unfolding root_of_units
  units_are =
      ap (λ (j : ℕ). round binary64 false (twice_root 54 (n * 4 ^ 54 / 4 ^ j) * 2 ^ j) (2 ^ 592)) (fours n s w S)
      ∙ ap (λ (m : ℕ). round binary64 false (twice_root 54 m * 2 ^ suc (w / 2)) (2 ^ 592)) (moved_is n s w S)

  -- in units, the root is (q + 1) / 2 times 2 ^ (w / 2 + 485)
  pub root_value : HasValue (root_of_units n) false ((found s w + 1) / 2 * 2 ^ (w / 2 + 485)) (2 ^ 1074)
  root_value =
      subst (λ (v : Float). HasValue v false ((found s w + 1) / 2 * 2 ^ (w / 2 + 485)) (2 ^ 1074)) (sym units_are)
      (subst (λ (k : ℕ). HasValue (round binary64 false (twice_root 54 (moved s w) * 2 ^ suc (w / 2)) (2 ^ 592)) false ((found s w + 1) / 2 * 2 ^ k) (2 ^ 1074)) (up w)
      (rounded (twice_root 54 (moved s w)) (suc (w / 2)) (twice_least n s w S) (twice_most n s w S) ((found s w + 1) / 2) (twice_kept n s w S) most_kept (few w S.finite)))
    where
      up : (w : ℕ) → suc (w / 2) + 484 ≡ w / 2 + 485
      up w = omega arith

      few : (w : ℕ) → w < 2098 → suc (w / 2) < 1050
      few w h = omega arith

  pub root_fits : T (fits binary64 (root_of_units n))
  root_fits = subst (λ (v : Float). T (fits binary64 v)) (sym units_are) (round-fits binary64 false (twice_root 54 (moved s w) * 2 ^ suc (w / 2)) (2 ^ 592))

  pub root-bits_are : of_bits binary64 ((w / 2 + 485) * 2 ^ 52 + (found s w + 1) / 2) ≡ root_of_units n
  root-bits_are =
      ap (of_bits binary64) (sym (bits_of (root_of_units n) ((found s w + 1) / 2) (w / 2 + 485) root_value least_kept most_kept))
      ∙ of_bits-to_bits binary64 (root_of_units n) root_fits
