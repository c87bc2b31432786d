-- The least of some roots is the root of the least (`root-lesser`), so one root does. Sums of squares meet what that asks: they are NaNs or have a clear sign (`clear-square`, `clear-sum`, `clear-lesser`).
use Rattle.std.proofs.Common.{◌≡◌, ℕ, zero, suc, ◌+◌, ◌*◌, ◌^◌, ◌<◌, ◌≤◌, Bool, true, false, cond, not, ◌&&◌, ◌||◌, T, eqb, ltb, ◌⊎◌, pos, sym, refl, ap, ◌∙◌, subst, inl, inr, zero-lt-suc, eq-or-lt_of_le, mul-pos, arith, eqb→eq, lt→ltb, ltb-false}
use lib.Ieee.{Float, nan, inf, fin, binary64, Format, prec, emax, low, up, down, odd, units, round, sum, add, mul, fits, is_nan, lt, eq, le}
use lib.Ieee.Fits.{eq→eqb, and_l, up_pos, down_pos, round_is, cond-fits}
use Rattle.float.specs.Helpers.{decimal, lesser}
use Rattle.float.specs.Root.{root}
use Rattle.float.proofs.Signs.{clash, yes, fits_zero}
use Rattle.float.proofs.Nearest.{same_value}
use Rattle.float.proofs.Order.{clear, suc_positive, not_both, or_l, or_r, zero_le, root-clear, root_number, root_fits, root_monotone}

-- ---- the order of two values whose sign is clear
is_false : (b : Bool) → T (not b) → b ≡ false
is_false true n = absurd n
is_false false n = refl

is_true : (b : Bool) → T b → b ≡ true
is_true true t = refl
is_true false t = absurd t

-- of two values one is at most the other
total : (a b : Float) → T (clear a) → T (clear b) → T (not (is_nan a)) → T (not (is_nan b)) → lt b a ≡ false → T (le a b)
unfolding le lt eq is_nan
total nan b c d n m h = absurd n
total (inf true) b c d n m h = absurd c
total (inf false) nan c d n m h = absurd m
total (inf false) (inf true) c d n m h = absurd d
total (inf false) (inf false) c d n m h = tt
total (inf false) (fin t k e) c d n m h = clash refl h
total (fin true k e) b c d n m h = absurd c
total (fin false k e) nan c d n m h = absurd m
total (fin false k e) (inf true) c d n m h = absurd d
total (fin false k e) (inf false) c d n m h = tt
total (fin false k e) (fin true j f) c d n m h = absurd d
total (fin false k e) (fin false j f) c d n m h = go (k * up e * down f) (j * up f * down e) (ltb-false (j * up f * down e) (k * up e * down f) h)
  where
    both : (a b : ℕ) → a ≡ b → T (eqb a b && true)
    both a b e = subst (λ (t : Bool). T (t && true)) (sym (is_true (eqb a b) (eq→eqb e))) tt

    go : (a b : ℕ) → a ≤ b → T (ltb a b || (eqb a b && true))
    go a b l = elim (eq-or-lt_of_le l) [ inl e ↦ or_r (ltb a b) (eqb a b && true) (both a b e) | inr g ↦ or_l (ltb a b) (eqb a b && true) (lt→ltb a b g) ]

-- two that compare equal are the same f64
eq_same : (a b : Float) → T (fits binary64 a) → T (fits binary64 b) → T (clear a) → T (clear b) → T (eq a b) → a ≡ b
unfolding eq
eq_same nan b F G c d h = absurd h
eq_same (inf true) b F G c d h = absurd c
eq_same (inf false) nan F G c d h = absurd h
eq_same (inf false) (inf true) F G c d h = absurd d
eq_same (inf false) (inf false) F G c d h = refl
eq_same (inf false) (fin t k e) F G c d h = absurd h
eq_same (fin true k e) b F G c d h = absurd c
eq_same (fin false k e) nan F G c d h = absurd h
eq_same (fin false k e) (inf t) F G c d h = absurd h
eq_same (fin false k e) (fin true j f) F G c d h = absurd d
eq_same (fin false zero e) (fin false zero f) F G c d h = ap (fin false zero) (fits_zero false e F ∙ sym (fits_zero false f G))
eq_same (fin false zero e) (fin false (suc j) f) F G c d h = absurd (none (up e) (down f) (suc j * up f * down e) (mul-pos (mul-pos (zero-lt-suc j) (up_pos f)) (down_pos e)) (eqb→eq (0 * up e * down f) (suc j * up f * down e) (and_l (eqb (0 * up e * down f) (suc j * up f * down e)) true h)))
  where
    none : (a b c : ℕ) → 0 < c → 0 * a * b ≡ c → ⊥
    none a b c p q = omega arith
eq_same (fin false (suc k) e) (fin false zero f) F G c d h = absurd (none (up f) (down e) (suc k * up e * down f) (mul-pos (mul-pos (zero-lt-suc k) (up_pos e)) (down_pos f)) (eqb→eq (suc k * up e * down f) (0 * up f * down e) (and_l (eqb (suc k * up e * down f) (0 * up f * down e)) true h)))
  where
    none : (a b c : ℕ) → 0 < c → c ≡ 0 * a * b → ⊥
    none a b c p q = omega arith
eq_same (fin false (suc k) e) (fin false (suc j) f) F G c d h =
    same_value (fin false (suc k) e) (fin false (suc j) f) F G (suc_positive k e) (suc_positive j f)
    (eqb→eq (suc k * up e * down f) (suc j * up f * down e) (and_l (eqb (suc k * up e * down f) (suc j * up f * down e)) true h))

-- ---- the lesser root is the root of the lesser
not_negative : (x : Float) → T (clear x) → T (not (is_nan x)) → T (le (decimal 0 0) x)
unfolding round
not_negative x c n = zero_le false (pos 0) x c n

a_number : (b a : Float) → T (lt b a) → T (not (is_nan b)) × T (not (is_nan a))
unfolding lt is_nan
a_number nan a h = absurd h
a_number (inf s) nan h = absurd h
a_number (inf s) (inf t) h = (tt, tt)
a_number (inf s) (fin t m e) h = (tt, tt)
a_number (fin s m e) nan h = absurd h
a_number (fin s m e) (inf t) h = (tt, tt)
a_number (fin s m e) (fin t n d) h = (tt, tt)

-- `lesser a b` for an a that is no NaN
abbrev pick : Bool → Float → Float → Float
pick t a b = cond (false || t) b a

lesser_is : (a b : Float) → T (not (is_nan a)) → lesser a b ≡ pick (lt b a) a b
unfolding lesser
lesser_is a b n = ap (λ (t : Bool). cond (t || lt b a) b a) (is_false (is_nan a) n)

lt_nan : (a : Float) → T (lt nan a) → ⊥
unfolding lt
lt_nan a t = t

root_nan : root nan ≡ nan
unfolding root
root_nan = refl

nan_or : (x : Float) → (x ≡ nan) ⊎ T (not (is_nan x))
unfolding is_nan
nan_or nan = inl refl
nan_or (inf s) = inr tt
nan_or (fin s m e) = inr tt

nan_lesser : (b : Float) → lesser nan b ≡ b
unfolding lesser is_nan
nan_lesser b = refl

module _ (a b : Float) (F : T (fits binary64 a)) (G : T (fits binary64 b)) (c : T (clear a)) (d : T (clear b)) (n : T (not (is_nan a))) where
  -- b is less: where the roots are equal, either does
  second : T (lt b a) → (u : Bool) → lt (root b) (root a) ≡ u → root b ≡ pick u (root a) (root b)
  unfolding le
  second h true e = refl
  second h false e =
      let m = (a_number b a h).0 in
      let l : T (le b a) = or_l (lt b a) (eq b a) h in
      let k : T (lt (root b) (root a) || eq (root b) (root a)) = root_monotone b a G F (not_negative b d m) l in
      eq_same (root b) (root a) (root_fits b G) (root_fits a F) (root-clear b G d) (root-clear a F c) (subst (λ (t : Bool). T (t || eq (root b) (root a))) e k)

  first : lt b a ≡ false → (u : Bool) → lt (root b) (root a) ≡ u → root a ≡ pick u (root a) (root b)
  first h false e = refl
  first h true e =
      absurd
      (elim (nan_or b) [
        | inl m ↦ lt_nan (root a) (subst (λ (v : Float). T (lt v (root a))) (ap root m ∙ root_nan) (yes e))
        | inr m ↦ not_both (root b) (root a) e (root_monotone a b F G (not_negative a c n) (total a b c d n m h))
      ])

  picked : (t : Bool) → lt b a ≡ t → root (pick t a b) ≡ pick (lt (root b) (root a)) (root a) (root b)
  picked true e = second (yes e) (lt (root b) (root a)) refl
  picked false e = first e (lt (root b) (root a)) refl

  number_lesser : root (lesser a b) ≡ lesser (root a) (root b)
  number_lesser = ap root (lesser_is a b n) ∙ picked (lt b a) refl ∙ sym (lesser_is (root a) (root b) (root_number a F c n))

pub root-lesser : (a b : Float) → T (fits binary64 a) → T (fits binary64 b) → T (clear a) → T (clear b) → root (lesser a b) ≡ lesser (root a) (root b)
root-lesser a b F G c d =
    elim (nan_or a) [
      | inl e ↦ ap root (ap (λ (v : Float). lesser v b) e ∙ nan_lesser b) ∙ sym (ap (λ (v : Float). lesser v (root b)) (ap root e ∙ root_nan) ∙ nan_lesser (root b))
      | inr n ↦ number_lesser a b F G c d n
    ]

-- of two roots in order, the squares are
pub root_reflects : (x y : Float) → T (fits binary64 x) → T (fits binary64 y) → T (clear x) → T (clear y) → T (not (is_nan x)) → T (not (is_nan y)) → T (lt (root x) (root y)) → T (lt x y)
root_reflects x y F G c d n m h = go (lt x y) refl
  where
    go : (t : Bool) → lt x y ≡ t → T t
    go true e = tt
    go false e = not_both (root x) (root y) (is_true (lt (root x) (root y)) h) (root_monotone y x G F (not_negative y d m) (total y x d c m n e))

-- ---- what has a clear sign
clear_odd : (k q i j : ℕ) → T (clear (odd k false q i j))
unfolding odd
clear_odd k zero i j = tt
clear_odd k (suc q) i j = tt

clear_units : (f : Format) (q k : ℕ) → T (clear (units f false q k))
unfolding units
clear_units f q k = go (ltb (q * 2 ^ k) (2 ^ (low f + suc (emax f))))
  where
    go : (b : Bool) → T (clear (cond b (odd (suc (prec f)) false q k (low f)) (inf false)))
    go true = clear_odd (suc (prec f)) q k (low f)
    go false = tt

pub clear-round : (f : Format) (n d : ℕ) → T (clear (round f false n d))
clear-round f n d = subst (λ (v : Float). T (clear v)) (sym (round_is f false n d)) (clear_units f _ _)

pub clear-square : (x : Float) → T (clear (mul binary64 x x))
unfolding mul
clear-square nan = tt
clear-square (inf true) = tt
clear-square (inf false) = tt
clear-square (fin true m e) = clear-round binary64 (m * up e * (m * up e)) (down e * down e)
clear-square (fin false m e) = clear-round binary64 (m * up e * (m * up e)) (down e * down e)

pub clear-sum : (x y : Float) → T (clear x) → T (clear y) → T (clear (add binary64 x y))
unfolding add sum
clear-sum nan y c d = tt
clear-sum (inf true) y c d = absurd c
clear-sum (inf false) nan c d = tt
clear-sum (inf false) (inf true) c d = absurd d
clear-sum (inf false) (inf false) c d = tt
clear-sum (inf false) (fin t n f) c d = tt
clear-sum (fin true m e) y c d = absurd c
clear-sum (fin false m e) nan c d = tt
clear-sum (fin false m e) (inf true) c d = absurd d
clear-sum (fin false m e) (inf false) c d = tt
clear-sum (fin false m e) (fin true n f) c d = absurd d
clear-sum (fin false m e) (fin false n f) c d = clear-round binary64 (m * up e * down f + n * up f * down e) (down e * down f)

pub clear-lesser : (a b : Float) → T (clear a) → T (clear b) → T (clear (lesser a b))
unfolding lesser
clear-lesser a b c d = go (is_nan a || lt b a)
  where
    go : (t : Bool) → T (clear (cond t b a))
    go true = d
    go false = c

pub lesser_fits : (a b : Float) → T (fits binary64 a) → T (fits binary64 b) → T (fits binary64 (lesser a b))
unfolding lesser
lesser_fits a b F G = cond-fits binary64 (is_nan a || lt b a) b a G F
