-- The root keeps the order (`root_monotone`); what is less is not as much or more (`not_both`).
use Rattle.std.proofs.Common.{◌≡◌, ℕ, zero, suc, ◌+◌, ◌*◌, ◌/◌, ◌^◌, ◌<◌, ◌≤◌, Bool, true, false, not, ◌||◌, T, eqb, ltb, ◌⊎◌, ℤ, pos, sym, refl, ap, ◌∙◌, subst, inl, inr, le_trans, le_of_eq, le_refl, le_of_suc-le-suc, lt_of_le_of_lt, le_of_lt, mul-le-mul_right, zero-lt-suc, mul-le-mul, eq-or-lt_of_le, mul-pos, pow-suc, mul_right_comm, le_of_mul-le-mul_right, arith, eqb→eq, ltb→lt, lt→ltb, pow_pos, pow_mono}
use mathlib.Core.Bool.{beq}
use lib.Ieee.{Float, nan, inf, fin, binary64, up, down, round, below, level, fits, is_nan, lt, eq, le}
use lib.Ieee.Digits.{size_reaches, size-lt}
use lib.Ieee.Fits.{and_l, and_r, up_pos, down_pos}
use lib.Ieee.Exact.{HasValue}
use lib.Ieee.Nearest.{div_mono}
use lib.Ieee.Order.{le_of_values}
use lib.Ieee.Positive.{num, den, positive, den_pos, le→cross, above, above_of_le}
use Rattle.float.specs.Helpers.{decimal}
use Rattle.float.specs.Root.{root}
pub use Rattle.float.specs.RootTheorems.{clear}
use Rattle.float.proofs.Signs.{clash, yes}
use Rattle.float.proofs.Held.{pow_lt_back}
use Rattle.float.proofs.Whole.{root_mono}
use Rattle.float.proofs.Scaled.{Scaled, moved, found, four, size_of, moved_times, is_root, least_kept, most_kept, root_value}
use Rattle.float.proofs.Patterns.{scaled, root_of}
use Rattle.float.proofs.Patterns as patterns
use Rattle.float.proofs.Nearest.{root_nearest}

-- ---- in units
module _ (n s w n' s' w' : ℕ) (S : Scaled n s w) (S' : Scaled n' s' w') (h : n ≤ n') where
  exponents : w ≤ w'
  exponents =
      le_of_suc-le-suc
      (pow_lt_back w (suc w')
      (lt_of_le_of_lt (le_trans (size_reaches n w (subst (λ (z : ℕ). w < z) (sym (size_of n s w S)) (le_refl (suc w)))) h) (subst (λ (z : ℕ). n' < 2 ^ z) (size_of n' s' w' S') (size-lt n'))))

  moved_mono : w / 2 ≡ w' / 2 → moved s w ≤ moved s' w'
  moved_mono e =
      le_of_mul-le-mul_right
      (le_trans (le_of_eq (sym (moved_times n s w S))) (le_trans (mul-le-mul_right (4 ^ 54) h) (le_of_eq (moved_times n' s' w' S' ∙ ap (λ (i : ℕ). moved s' w' * 4 ^ suc i) (sym e)))))
      (subst (λ (k : ℕ). 0 < k) (sym (four (suc (w / 2)))) (mul-pos (pow_pos (suc (w / 2))) (pow_pos (suc (w / 2)))))

  roots_mono : (found s w + 1) / 2 * 2 ^ (w / 2 + 485) ≤ (found s' w' + 1) / 2 * 2 ^ (w' / 2 + 485)
  roots_mono =
      elim (eq-or-lt_of_le (halves w w' exponents)) [
        | inl e ↦ mul-le-mul (kept (found s w) (found s' w') (root_mono (moved s w) (moved s' w') (found s w) (found s' w') (moved_mono e) (is_root n s w S) (is_root n' s' w' S'))) (le_of_eq (ap (λ (i : ℕ). 2 ^ (i + 485)) e))
        | inr l ↦
            le_trans (mul-le-mul_right (2 ^ (w / 2 + 485)) (le_of_lt (most_kept n s w S)))
            (le_trans (le_of_eq (double (2 ^ (w / 2 + 485)) ∙ ap (λ (p : ℕ). 2 ^ 52 * p) (sym (pow-suc 2 (w / 2 + 485)))))
            (mul-le-mul (least_kept n' s' w' S') (pow_mono (next (w / 2) (w' / 2) l))))
      ]
    where
      halves : (a b : ℕ) → a ≤ b → a / 2 ≤ b / 2
      halves a b h = omega arith

      kept : (a b : ℕ) → a ≤ b → (a + 1) / 2 ≤ (b + 1) / 2
      kept a b h = omega arith

      double : (p : ℕ) → 9007199254740992 * p ≡ 4503599627370496 * (p * 2)
      double p = omega arith

      next : (a b : ℕ) → a < b → suc (a + 485) ≤ b + 485
      next a b h = omega arith

-- ---- two values above 0
positive_mono : (x y : Float) → T (fits binary64 x) → T (fits binary64 y) → T (positive x) → T (positive y) → T (le x y) → T (le (root x) (root y))
positive_mono x y F G p q h =
    let S = scaled x F p in
    let S' = scaled y G q in
    let l = 2 ^ 1074 in
    let a = (found S.0 S.1 + 1) / 2 * 2 ^ (S.1 / 2 + 485) in
    let b = (found S'.0 S'.1 + 1) / 2 * 2 ^ (S'.1 / 2 + 485) in
    let u : patterns.units x ≤ patterns.units y = div_mono (num x * l) (den x) (num y * l) (den y) (den_pos x) (den_pos y) (le_trans (le_of_eq (mul_right_comm (num x) l (den y))) (le_trans (mul-le-mul_right l (le→cross x y p q h)) (le_of_eq (mul_right_comm (num y) (den x) l)))) in
    le_of_values (root x) (root y) a l b l (pow_pos 1074) (pow_pos 1074)
    (subst (λ (v : Float). HasValue v false a l) (sym (root_of x p)) (root_value (patterns.units x) S.0 S.1 S.2))
    (subst (λ (v : Float). HasValue v false b l) (sym (root_of y q)) (root_value (patterns.units y) S'.0 S'.1 S'.2))
    (mul-le-mul_right l (roots_mono (patterns.units x) S.0 S.1 (patterns.units y) S'.0 S'.1 S.2 S'.2 u))

-- above 0 unless it is the zero
pub suc_positive : (m : ℕ) (e : ℤ) → T (positive (fin false (suc m) e))
suc_positive m e = lt→ltb 0 (suc m) (zero-lt-suc m)

pub or_split : (a b : Bool) → T (a || b) → T a ⊎ T b
or_split true b t = inl tt
or_split false b t = inr t

pub or_r : (a b : Bool) → T b → T (a || b)
or_r true b t = tt
or_r false b t = t

pub or_l : (a b : Bool) → T a → T (a || b)
or_l true b t = tt
or_l false b t = absurd t

-- ---- what is less is not as much or more
crossed : (a b : ℕ) → a < b → b < a → ⊥
crossed a b h k = omega arith

same : (a b : ℕ) → a < b → b ≡ a → ⊥
same a b h k = omega arith

nothing : (a b : ℕ) → 0 < a + b → b ≡ a → b ≡ 0 → ⊥
nothing a b h k l = omega arith

not_below : (s t : Bool) (a b : ℕ) → T (below s a t b) → T (below t b s a) → ⊥
not_below false false a b h k = crossed a b (ltb→lt a b h) (ltb→lt b a k)
not_below false true a b h k = h
not_below true false a b h k = k
not_below true true a b h k = crossed b a (ltb→lt b a h) (ltb→lt a b k)

not_level : (s t : Bool) (a b : ℕ) → T (below s a t b) → T (level t b s a) → ⊥
not_level false false a b h k = same a b (ltb→lt a b h) (eqb→eq b a (and_l (eqb b a) true k))
not_level false true a b h k = h
not_level true false a b h k = nothing a b (ltb→lt 0 (a + b) h) (eqb→eq b a (and_l (eqb b a) (eqb b 0) k)) (eqb→eq b 0 (and_r (eqb b a) (eqb b 0) k))
not_level true true a b h k = same b a (ltb→lt b a h) (sym (eqb→eq b a (and_l (eqb b a) true k)))

pub not_both : (p q : Float) → lt p q ≡ true → T (le q p) → ⊥
unfolding lt eq le
not_both nan q h k = clash h refl
not_both (inf s) nan h k = clash h refl
not_both (inf true) (inf true) h k = clash h refl
not_both (inf true) (inf false) h k = k
not_both (inf false) (inf t) h k = clash h refl
not_both (inf true) (fin t n d) h k = k
not_both (inf false) (fin t n d) h k = clash h refl
not_both (fin s m e) nan h k = clash h refl
not_both (fin s m e) (inf true) h k = clash h refl
not_both (fin s m e) (inf false) h k = k
not_both (fin s m e) (fin t n d) h k =
    let a = m * up e * down d in
    let b = n * up d * down e in
    elim (or_split (below t b s a) (level t b s a) k) [
      | inl l ↦ not_below s t a b (yes h) l
      | inr l ↦ not_level s t a b (yes h) l
    ]

-- a zero's size, over any fraction
nil : (a b : ℕ) → 0 * a * b ≡ 0
nil a b = omega arith

at_zero_le : (s : Bool) (a b : ℕ) → a ≡ 0 → T (below s a false b || level s a false b)
at_zero_le s zero zero e = go s
  where
    go : (s : Bool) → T (below s 0 false 0 || level s 0 false 0)
    go true = tt
    go false = tt
at_zero_le true zero (suc b) e = or_l (ltb 0 (0 + suc b)) (level true 0 false (suc b)) (lt→ltb 0 (0 + suc b) (some b))
  where
    some : (b : ℕ) → 0 < 0 + suc b
    some b = omega arith
at_zero_le false zero (suc b) e = or_l (ltb 0 (suc b)) (level false 0 false (suc b)) (lt→ltb 0 (suc b) (zero-lt-suc b))
at_zero_le s (suc a) b e = absurd (none a e)
  where
    none : (a : ℕ) → suc a ≡ 0 → ⊥
    none a e = omega arith

-- a zero is at most whatever has a clear sign and is no NaN
pub zero_le : (s : Bool) (e : ℤ) (v : Float) → T (clear v) → T (not (is_nan v)) → T (le (fin s 0 e) v)
unfolding le lt eq is_nan
zero_le s e nan c n = absurd n
zero_le s e (inf true) c n = absurd c
zero_le s e (inf false) c n = tt
zero_le s e (fin true m d) c n = absurd c
zero_le s e (fin false m d) c n = at_zero_le s (0 * up e * down d) (m * up d * down e) (nil (up e) (down d))

-- ---- the root of a value with a clear sign is another
pub root-clear : (x : Float) → T (fits binary64 x) → T (clear x) → T (clear (root x))
unfolding root
root-clear nan F c = tt
root-clear (inf true) F c = absurd c
root-clear (inf false) F c = tt
root-clear (fin true m e) F c = absurd c
root-clear (fin false zero e) F c = tt
root-clear (fin false (suc m) e) F c = positive-clear (root (fin false (suc m) e)) (root_nearest (fin false (suc m) e) F (suc_positive m e)).above_zero
  where
    positive-clear : (v : Float) → T (positive v) → T (clear v)
    positive-clear nan p = tt
    positive-clear (inf s) p = absurd p
    positive-clear (fin true m e) p = absurd p
    positive-clear (fin false m e) p = tt

positive_number : (v : Float) → T (positive v) → T (not (is_nan v))
unfolding is_nan
positive_number nan p = absurd p
positive_number (inf s) p = tt
positive_number (fin s m e) p = tt

pub root_number : (x : Float) → T (fits binary64 x) → T (clear x) → T (not (is_nan x)) → T (not (is_nan (root x)))
unfolding root is_nan
root_number nan F c n = absurd n
root_number (inf true) F c n = absurd c
root_number (inf false) F c n = tt
root_number (fin true m e) F c n = absurd c
root_number (fin false zero e) F c n = tt
root_number (fin false (suc m) e) F c n = positive_number (root (fin false (suc m) e)) (root_nearest (fin false (suc m) e) F (suc_positive m e)).above_zero

pub root_fits : (x : Float) → T (fits binary64 x) → T (fits binary64 (root x))
unfolding root fits
root_fits nan F = tt
root_fits (inf true) F = tt
root_fits (inf false) F = tt
root_fits (fin s zero e) F = F
root_fits (fin true (suc m) e) F = tt
root_fits (fin false (suc m) e) F = (root_nearest (fin false (suc m) e) F (suc_positive m e)).is_f64

positive_endless : (v : Float) → T (positive v) → T (le v (inf false))
unfolding le lt
positive_endless nan p = absurd p
positive_endless (inf s) p = absurd p
positive_endless (fin true m e) p = absurd p
positive_endless (fin false m e) p = tt

-- no zero is at most a negative number
not_le_negative : (s : Bool) (a b : ℕ) → a ≡ 0 → 0 < b → T (below s a true b || level s a true b) → ⊥
not_le_negative s a b e h t = elim (or_split (below s a true b) (level s a true b) t) [ inl u ↦ less s u | inr u ↦ differ a b e h (eqb→eq a b (and_l (eqb a b) (beq s true || eqb a 0) u)) ]
  where
    differ : (a b : ℕ) → a ≡ 0 → 0 < b → a ≡ b → ⊥
    differ a b p q r = omega arith

    under : (a b : ℕ) → a ≡ 0 → b < a → ⊥
    under a b p q = omega arith

    less : (s : Bool) → T (below s a true b) → ⊥
    less false u = u
    less true u = under a b e (ltb→lt b a u)

not_below_zero : (s : Bool) (e : ℤ) (n : ℕ) (d : ℤ) → T (le (fin s 0 e) (fin true (suc n) d)) → ⊥
unfolding le lt eq
not_below_zero s e n d h = not_le_negative s (0 * up e * down d) (suc n * up d * down e) (nil (up e) (down d)) (mul-pos (mul-pos (zero-lt-suc n) (up_pos d)) (down_pos e)) h

-- ---- the order is kept
above_zero_mono : (m : ℕ) (e : ℤ) (y : Float) → T (fits binary64 (fin false (suc m) e)) → T (fits binary64 y) → T (le (fin false (suc m) e) y) → T (above y) → T (le (root (fin false (suc m) e)) (root y))
unfolding root
above_zero_mono m e nan F G h a = absurd a
above_zero_mono m e (inf true) F G h a = absurd a
above_zero_mono m e (inf false) F G h a = positive_endless (root (fin false (suc m) e)) (root_nearest (fin false (suc m) e) F (suc_positive m e)).above_zero
above_zero_mono m e (fin true n d) F G h a = absurd a
above_zero_mono m e (fin false zero d) F G h a = absurd a
above_zero_mono m e (fin false (suc n) d) F G h a = positive_mono (fin false (suc m) e) (fin false (suc n) d) F G (suc_positive m e) (suc_positive n d) h

zero_mono : (s : Bool) (e : ℤ) (y : Float) → T (fits binary64 y) → T (le (fin s 0 e) y) → T (le (fin s 0 e) (root y))
unfolding root le lt eq is_nan
zero_mono s e nan G h = h
zero_mono s e (inf true) G h = absurd h
zero_mono s e (inf false) G h = tt
zero_mono s e (fin t zero d) G h = h
zero_mono s e (fin true (suc n) d) G h = absurd (not_below_zero s e n d h)
zero_mono s e (fin false (suc n) d) G h =
    zero_le s e (root (fin false (suc n) d)) (root-clear (fin false (suc n) d) G tt) (root_number (fin false (suc n) d) G tt tt)

pub root_monotone : (x y : Float) → T (fits binary64 x) → T (fits binary64 y) → T (le (decimal 0 0) x) → T (le x y) → T (le (root x) (root y))
unfolding root round le lt eq
root_monotone nan y F G p h = absurd p
root_monotone (inf true) y F G p h = absurd p
root_monotone (inf false) nan F G p h = absurd h
root_monotone (inf false) (inf true) F G p h = absurd h
root_monotone (inf false) (inf false) F G p h = tt
root_monotone (inf false) (fin t n d) F G p h = absurd h
root_monotone (fin s zero e) y F G p h = zero_mono s e y G h
root_monotone (fin true (suc m) e) y F G p h = absurd (not_below_zero false (pos 0) m e p)
root_monotone (fin false (suc m) e) y F G p h = above_zero_mono m e y F G h (above_of_le (fin false (suc m) e) y (suc_positive m e) h)
