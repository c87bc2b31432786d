-- How large an f64 can be: what is rounded is at most an f64 that what it was rounded from is at most. So a bound by whole numbers goes through sums, products and quotients.
use Rattle.std.proofs.Common.{◌≡◌, ℕ, zero, suc, ◌+◌, ◌-◌, ◌*◌, ◌^◌, ◌<◌, ◌≤◌, Bool, true, false, cond, not, ◌&&◌, ◌||◌, T, eqb, ltb, ◌⊎◌, ℤ, pos, sym, refl, ap, ◌∙◌, subst, inl, inr, true≢false, le_trans, le_of_eq, le_of_lt, lt_irrefl, mul-le-mul_right, mul-le-mul, mul-pos, mul-one, arith, lit<, eqb→eq, ltb→lt, pow_pos, pow-add, ltb-false, le-ltb, eqb-true}
use mathlib.Core.Bool.{beq}
use native.Mathlib.Nat.{mul-mul-mul_comm}
use lib.Pow.{pow-lt}
use lib.Ieee.{Float, nan, inf, fin, binary64, up, down, unlike, odd, units, round, sum, add, sub, mul, div, neg, of_int, is_nan, lt, eq, le}
use lib.Ieee.Fits.{and_l, down_pos, round_is}
use lib.Ieee.Exact.{HasValue, round_exact}
use lib.Ieee.Order.{round_mono}
use lib.Ieee.Back.{round_whole}
use lib.Ieee.Positive.{num, den, positive, den_pos, value→cross, through, above, above_of_le, first_pos}
use Rattle.float.specs.Helpers.{decimal, absolute, lesser, greater, is_finite}
use Rattle.float.proofs.Signs.{clash}
use Rattle.float.proofs.Order.{clear, or_split}
use Rattle.float.proofs.Least.{clear-round}

-- x is finite and at most a / c in magnitude
abbrev pub Under : ℕ → ℕ → Float → Type 0
Under a c nan = ⊥
Under a c (inf s) = ⊥
Under a c (fin s m e) = m * up e * c ≤ a * down e

-- at most the whole number n
abbrev pub Within : ℕ → Float → Type 0
Within n x = Under n 1 x

-- a / c is an f64
abbrev pub Exact : ℕ → ℕ → Type 0
Exact a c = HasValue (round binary64 false a c) false a c

pub whole_exact : (n : ℕ) → n ≤ 2 ^ 53 → Exact n 1
whole_exact n h = round_whole binary64 false n h

pub power_exact : (a b : ℕ) → b ≤ 1074 → a < 1024 + b → Exact (2 ^ a) (2 ^ b)
power_exact a b h l =
    round_exact binary64 false (2 ^ a) (2 ^ b) 1 (a + (1074 - b)) (pow_pos b) (lit< tt)
    (subst (λ (k : ℕ). k < 2 ^ 2098) (sym (one (2 ^ (a + (1074 - b))))) (pow-lt (under a b h l)))
    (ap (λ (k : ℕ). 2 ^ a * 2 ^ k) (back b h) ∙ ap (λ (k : ℕ). 2 ^ a * k) (pow-add 2 (1074 - b) b) ∙ again (2 ^ a) (2 ^ (1074 - b)) (2 ^ b) ∙ ap (λ (k : ℕ). 1 * k * 2 ^ b) (sym (pow-add 2 a (1074 - b))))
  where
    one : (k : ℕ) → 1 * k ≡ k
    one k = omega arith

    under : (a b : ℕ) → b ≤ 1074 → a < 1024 + b → a + (1074 - b) < 2098
    under a b h l = omega arith

    back : (b : ℕ) → b ≤ 1074 → 1074 ≡ 1074 - b + b
    back b h = omega arith

    again : (x y z : ℕ) → x * (y * z) ≡ 1 * (x * y) * z
    again x y z = omega arith

-- ---- the size as a fraction
pub under_own : (x : Float) (a c : ℕ) → Under a c x → num x * c ≤ a * den x
under_own nan a c h = absurd h
under_own (inf s) a c h = absurd h
under_own (fin s m e) a c h = h

pub under_less : (x : Float) (a c b d : ℕ) → 0 < c → a * d ≤ b * c → Under a c x → Under b d x
under_less nan a c b d C h u = u
under_less (inf s) a c b d C h u = u
under_less (fin s m e) a c b d C h u = through (m * up e) a b (down e) c d C u h

pub within_less : (x : Float) {a b : ℕ} → a ≤ b → Within a x → Within b x
within_less x {a} {b} h u = under_less x a 1 b 1 (lit< tt) (mul-le-mul_right 1 h) u

pub neg_within : (x : Float) (n : ℕ) → Within n x → Within n (neg x)
unfolding neg
neg_within nan n h = h
neg_within (inf s) n h = h
neg_within (fin s m e) n h = h

-- ---- rounding
-- a value that is not negative and at most an f64
pub at_most : (a b : ℕ) → T (ltb a b || (eqb a b && true)) → a ≤ b
at_most a b t = elim (or_split (ltb a b) (eqb a b && true) t) [ inl u ↦ le_of_lt (ltb→lt a b u) | inr u ↦ le_of_eq (eqb→eq a b (and_l (eqb a b) true u)) ]

pub le_under : (x y : Float) (n d : ℕ) → T (clear x) → HasValue y false n d → T (le x y) → Under n d x
unfolding le
le_under x nan n d c v h = absurd v
le_under x (inf t) n d c v h = absurd v
le_under x (fin true k g) n d c v h = absurd (true≢false v.0)
le_under nan (fin false k g) n d c v h = absurd h
le_under (inf true) (fin false k g) n d c v h = absurd c
le_under (inf false) (fin false k g) n d c v h = absurd h
le_under (fin true m e) (fin false k g) n d c v h = absurd c
le_under (fin false m e) (fin false k g) n d c v h =
    through (m * up e) (k * up g) n (down e) (down g) d (down_pos g) (at_most (m * up e * down g) (k * up g * down e) h) (le_of_eq v.1)

-- the sign changes nothing
signed_units : (n d : ℕ) (s : Bool) (q k : ℕ) → Under n d (units binary64 false q k) → Under n d (units binary64 s q k)
unfolding units odd
signed_units n d s q k u = pick (ltb (q * 2 ^ k) (2 ^ 2098)) q u
  where
    pick : (b : Bool) (q : ℕ) → Under n d (cond b (odd 54 false q k 1074) (inf false)) → Under n d (cond b (odd 54 s q k 1074) (inf s))
    pick true zero u = u
    pick true (suc q) u = u
    pick false q u = u

signed : (n d : ℕ) (s : Bool) (a c : ℕ) → Under n d (round binary64 false a c) → Under n d (round binary64 s a c)
signed n d s a c u = subst (Under n d) (sym (round_is binary64 s a c)) (signed_units n d s _ _ (subst (Under n d) (round_is binary64 false a c) u))

pub round_under : (s : Bool) (a c n d : ℕ) → 0 < c → 0 < d → Exact n d → a * d ≤ n * c → Under n d (round binary64 s a c)
round_under s a c n d C D x h = signed n d s a c (le_under (round binary64 false a c) (round binary64 false n d) n d (clear-round binary64 a c) x (round_mono binary64 a c n d C D h))

-- ---- sums
module _ (n : ℕ) (exact : Exact n 1) where
  -- of a sum of two fractions over c, whatever the signs
  sum_exact : (s t : Bool) (a b c : ℕ) → 0 < c → a + b ≤ n * c → Within n (sum binary64 s a t b c)
  unfolding sum
  sum_exact s t a b c C h = go (beq s t) (ltb a b) (s && ltb b a)
    where
      small : (u : Bool) (v : ℕ) → v ≤ a + b → Within n (round binary64 u v c)
      small u v l = round_under u v c n 1 C (lit< tt) exact (le_trans (le_of_eq (mul-one v)) (le_trans l h))

      left : (a b : ℕ) → a - b ≤ a + b
      left a b = omega arith

      right : (a b : ℕ) → b - a ≤ a + b
      right a b = omega arith

      go : (p q u : Bool) → Within n (cond p (round binary64 s (a + b) c) (cond q (round binary64 t (b - a) c) (round binary64 u (a - b) c)))
      go true q u = small s (a + b) (le_of_eq refl)
      go false true u = small t (b - a) (right a b)
      go false false u = small u (a - b) (left a b)

  pub add_exact : (x y : Float) (a b : ℕ) → a + b ≤ n → Within a x → Within b y → Within n (add binary64 x y)
  unfolding add
  add_exact nan y a b l h k = h
  add_exact (inf s) y a b l h k = absurd h
  add_exact (fin s m e) nan a b l h k = k
  add_exact (fin s m e) (inf t) a b l h k = k
  add_exact (fin s m e) (fin t i d) a b l h k =
      sum_exact s t (m * up e * down d) (i * up d * down e) (down e * down d) (mul-pos (down_pos e) (down_pos d))
      (go (m * up e) (down e) (i * up d) (down d) (mul-le-mul_right (down d) h) (mul-le-mul_right (down e) k) (mul-le-mul_right (down e * down d) l))
    where
      go : (x p y q : ℕ) → x * 1 * q ≤ a * p * q → y * 1 * p ≤ b * q * p → (a + b) * (p * q) ≤ n * (p * q) → x * q + y * p ≤ n * (p * q)
      go x p y q f g i = omega arith

pub add_within : (n : ℕ) (few : n ≤ 2 ^ 53) (x y : Float) (a b : ℕ) → a + b ≤ n → Within a x → Within b y → Within n (add binary64 x y)
add_within n few x y a b l h k = add_exact n (whole_exact n few) x y a b l h k

pub sub_within : (n : ℕ) (few : n ≤ 2 ^ 53) (x y : Float) (a b : ℕ) → a + b ≤ n → Within a x → Within b y → Within n (sub binary64 x y)
unfolding sub
sub_within n few x y a b l h k = add_within n few x (neg y) a b l h (neg_within y b k)

-- ---- products and quotients
-- a * b / (c * d) ≤ n / k
pub mul_under : (x y : Float) (a c b d n k : ℕ) → 0 < c → 0 < d → 0 < k → Exact n k → a * b * k ≤ n * (c * d) → Under a c x → Under b d y → Under n k (mul binary64 x y)
unfolding mul
mul_under nan y a c b d n k C D K x l g h = g
mul_under (inf s) y a c b d n k C D K x l g h = absurd g
mul_under (fin s m e) nan a c b d n k C D K x l g h = h
mul_under (fin s m e) (inf t) a c b d n k C D K x l g h = absurd h
mul_under (fin s m e) (fin t i f) a c b d n k C D K x l g h =
    round_under (unlike s t) (m * up e * (i * up f)) (down e * down f) n k (mul-pos (down_pos e) (down_pos f)) K x
    (through (m * up e * (i * up f)) (a * b) n (down e * down f) (c * d) k (mul-pos C D) both l)
  where
    both : m * up e * (i * up f) * (c * d) ≤ a * b * (down e * down f)
    both = le_trans (le_of_eq (mul-mul-mul_comm (m * up e) (i * up f) c d)) (le_trans (mul-le-mul g h) (le_of_eq (mul-mul-mul_comm a (down e) b (down f))))

pub mul_within : (x y : Float) (a b n : ℕ) → n ≤ 2 ^ 53 → a * b ≤ n → Within a x → Within b y → Within n (mul binary64 x y)
mul_within x y a b n few l g h = mul_under x y a 1 b 1 n 1 (lit< tt) (lit< tt) (lit< tt) (whole_exact n few) (mul-le-mul_right 1 l) g h

-- x is finite and in magnitude at most k times y, which is finite and above 0
pub record Times (k : ℕ) (x y : Float) : Type 0 where
  pub finite : is_finite x ≡ true
  pub unsigned : T (clear y)
  pub some : 0 < num y
  pub most : num x * den y ≤ k * (num y * den x)

pub div_within : (x y : Float) (k : ℕ) → k ≤ 2 ^ 53 → Times k x y → Within k (div binary64 x y)
unfolding div is_finite
div_within nan y k few t = clash t.finite refl
div_within (inf s) y k few t = clash t.finite refl
div_within (fin s m e) nan k few t = absurd (lt_irrefl 0 t.some)
div_within (fin s m e) (inf u) k few t = absurd (lt_irrefl 0 t.some)
div_within (fin s m e) (fin u n d) k few t = go (eqb n 0) refl
  where
    go : (b : Bool) → eqb n 0 ≡ b → Within k (cond b (cond (eqb m 0) nan (inf (unlike s u))) (round binary64 (unlike s u) (m * up e * down d) (n * up d * down e)))
    go true z = absurd (zero_first n (up d) (eqb-true n 0 z) t.some)
      where
        zero_first : (n u : ℕ) → n ≡ 0 → 0 < n * u → ⊥
        zero_first n u z h = let p = first_pos n u h in omega arith
    go false z = round_under (unlike s u) (m * up e * down d) (n * up d * down e) k 1 (mul-pos t.some (down_pos e)) (lit< tt) (whole_exact k few) (le_trans (le_of_eq (mul-one (m * up e * down d))) t.most)

-- ---- whole numbers
pub whole_within : (k : ℕ) → k ≤ 2 ^ 53 → Within k (of_int binary64 (pos k))
unfolding of_int
whole_within k few = round_under false k 1 k 1 (lit< tt) (lit< tt) (whole_exact k few) (le_of_eq refl)

pub within_finite : (x : Float) (a c : ℕ) → Under a c x → is_finite x ≡ true
unfolding is_finite
within_finite nan a c h = absurd h
within_finite (inf s) a c h = absurd h
within_finite (fin s m e) a c h = refl

-- a quotient by a whole number
pub div_whole : (x : Float) (n k : ℕ) → n ≤ 2 ^ 53 → 0 < k → k ≤ 2 ^ 53 → Within (n * k) x → Within n (div binary64 x (of_int binary64 (pos k)))
unfolding of_int
div_whole x n k few K l h =
    let y = round binary64 false k 1 in
    let e = value→cross y k 1 (whole_exact k l) in
    div_within x y n few
    (record {
      finite = within_finite x (n * k) 1 h;
      unsigned = clear-round binary64 k 1;
      some = some k (num y) (den y) (mul-pos K (den_pos y)) e;
      most = most (num x) (den x) (num y) (den y) (mul-le-mul_right (den y) (under_own x (n * k) 1 h)) (ap (λ (i : ℕ). n * (i * den x)) e);
    })
  where
    some : (k p q : ℕ) → 0 < k * q → p * 1 ≡ k * q → 0 < p
    some k p q h e = omega arith

    most : (x p y q : ℕ) → x * 1 * q ≤ n * k * p * q → n * (y * 1 * p) ≡ n * (k * q * p) → x * q ≤ n * (y * p)
    most x p y q h e = omega arith

-- ---- a limit, and a number whose size is tested by it
sizes : (y : Float) (n : ℕ) (s : Bool) (m : ℕ) (e : ℤ) → HasValue y false n 1 → lt y (fin false m e) ≡ false → Within n (fin s m e)
unfolding lt
sizes nan n s m e v h = absurd v
sizes (inf t) n s m e v h = absurd v
sizes (fin true k g) n s m e v h = absurd (true≢false v.0)
sizes (fin false k g) n s m e v h =
    through (m * up e) (k * up g) n (down e) (down g) 1 (down_pos g) (ltb-false (k * up g * down e) (m * up e * down g) h) (le_of_eq v.1)

sizes_back : (y : Float) (n : ℕ) (s : Bool) (m : ℕ) (e : ℤ) → HasValue y false n 1 → Within n (fin s m e) → lt y (fin false m e) ≡ false
unfolding lt
sizes_back nan n s m e v h = absurd v
sizes_back (inf t) n s m e v h = absurd v
sizes_back (fin true k g) n s m e v h = absurd (true≢false v.0)
sizes_back (fin false k g) n s m e v h =
    le-ltb (k * up g * down e) (m * up e * down g) (through (m * up e) n (k * up g) (down e) 1 (down g) (lit< tt) h (le_of_eq (sym v.1)))

pub right_within : (n : ℕ) (x : Float) → n ≤ 2 ^ 53 → not (is_finite x) ≡ false → lt (decimal n 0) (absolute x) ≡ false → Within n x
unfolding is_finite absolute
right_within n nan few h k = clash refl h
right_within n (inf s) few h k = clash refl h
right_within n (fin s m e) few h k = sizes (decimal n 0) n s m e (whole_exact n few) k

pub within_right : (n : ℕ) (x : Float) → n ≤ 2 ^ 53 → Within n x → (not (is_finite x) ≡ false) × (lt (decimal n 0) (absolute x) ≡ false)
unfolding is_finite absolute
within_right n nan few h = absurd h
within_right n (inf s) few h = absurd h
within_right n (fin s m e) few h = (refl, sizes_back (decimal n 0) n s m e (whole_exact n few) h)

-- ---- `f64::min` of a number that is not negative
pub lesser_within : (n : ℕ) (x y : Float) → T (clear x) → Within n y → Within n (lesser x y)
unfolding lesser is_nan lt
lesser_within n x nan c h = absurd h
lesser_within n x (inf t) c h = absurd h
lesser_within n nan (fin t k g) c h = h
lesser_within n (inf true) (fin t k g) c h = absurd c
lesser_within n (inf false) (fin t k g) c h = h
lesser_within n (fin true m e) (fin t k g) c h = absurd c
lesser_within n (fin false m e) (fin t k g) c h = go t (lt (fin t k g) (fin false m e)) refl
  where
    go : (t b : Bool) → lt (fin t k g) (fin false m e) ≡ b → Within n (cond b (fin t k g) (fin false m e))
    go t true q = h
    go false false q = through (m * up e) (k * up g) n (down e) (down g) 1 (down_pos g) (ltb-false (k * up g * down e) (m * up e * down g) q) h
    go true false q = none (m * up e) (down e) (k * up g) (down g) (down_pos g) (ltb-false 0 (k * up g * down e + m * up e * down g) q)
      where
        none : (x p y q : ℕ) → 0 < q → y * p + x * q ≤ 0 → x * 1 ≤ n * p
        none zero p y q Q h = omega arith
        none (suc x) p y q Q h = omega (arith, mul-le-mul_right x Q)

clear_either : (b : Bool) → T (clear (cond b nan (inf false)))
clear_either true = tt
clear_either false = tt

pub clear_mul : (x y : Float) → T (clear x) → T (clear y) → T (clear (mul binary64 x y))
unfolding mul
clear_mul nan y c d = tt
clear_mul (inf true) y c d = absurd c
clear_mul (inf false) nan c d = tt
clear_mul (inf false) (inf true) c d = absurd d
clear_mul (inf false) (inf false) c d = tt
clear_mul (inf false) (fin true n f) c d = absurd d
clear_mul (inf false) (fin false n f) c d = clear_either (eqb n 0)
clear_mul (fin true m e) y c d = absurd c
clear_mul (fin false m e) nan c d = tt
clear_mul (fin false m e) (inf true) c d = absurd d
clear_mul (fin false m e) (inf false) c d = clear_either (eqb m 0)
clear_mul (fin false m e) (fin true n f) c d = absurd d
clear_mul (fin false m e) (fin false n f) c d = clear-round binary64 (m * up e * (n * up f)) (down e * down f)

pub clear_div : (x y : Float) → T (clear x) → T (clear y) → T (clear (div binary64 x y))
unfolding div
clear_div nan y c d = tt
clear_div (inf true) y c d = absurd c
clear_div (inf false) nan c d = tt
clear_div (inf false) (inf t) c d = tt
clear_div (inf false) (fin true n f) c d = absurd d
clear_div (inf false) (fin false n f) c d = tt
clear_div (fin true m e) y c d = absurd c
clear_div (fin false m e) nan c d = tt
clear_div (fin false m e) (inf true) c d = absurd d
clear_div (fin false m e) (inf false) c d = tt
clear_div (fin false m e) (fin true n f) c d = absurd d
clear_div (fin false m e) (fin false n f) c d = go (eqb n 0) (eqb m 0)
  where
    go : (b z : Bool) → T (clear (cond b (cond z nan (inf false)) (round binary64 false (m * up e * down f) (n * up f * down e))))
    go true true = tt
    go true false = tt
    go false z = clear-round binary64 (m * up e * down f) (n * up f * down e)

-- ---- what is above 0 is at most n: a difference of such a number and one that is not negative, and its `f64::max` with 0
abbrev pub Upto : ℕ → Float → Type 0
Upto n nan = T true
Upto n (inf s) = T true
Upto n (fin true m e) = T true
Upto n (fin false m e) = m * up e * 1 ≤ n * down e

-- without a sign, or a zero
abbrev pub NotNegative : Float → Type 0
NotNegative x = T (clear x) ⊎ Within 0 x

pub within_upto : (n : ℕ) (x : Float) → Within n x → Upto n x
within_upto n nan h = absurd h
within_upto n (inf s) h = absurd h
within_upto n (fin true m e) h = tt
within_upto n (fin false m e) h = h

upto_units : (n q k : ℕ) → Upto n (units binary64 true q k)
unfolding units odd
upto_units n q k = pick (ltb (q * 2 ^ k) (2 ^ 2098)) q
  where
    pick : (b : Bool) (q : ℕ) → Upto n (cond b (odd 54 true q k 1074) (inf true))
    pick true zero = tt
    pick true (suc q) = tt
    pick false q = tt

upto_negative : (n a c : ℕ) → Upto n (round binary64 true a c)
upto_negative n a c = subst (Upto n) (sym (round_is binary64 true a c)) (upto_units n _ _)

module _ (n : ℕ) (few : n ≤ 2 ^ 53) where
  upto_round : (s : Bool) (v c : ℕ) → 0 < c → (s ≡ false → v ≤ n * c) → Upto n (round binary64 s v c)
  upto_round true v c C h = upto_negative n v c
  upto_round false v c C h = within_upto n (round binary64 false v c) (round_under false v c n 1 C (lit< tt) (whole_exact n few) (le_trans (le_of_eq (mul-one v)) (h refl)))

  sum_upto : (s t : Bool) (a b c : ℕ) → 0 < c → (s ≡ false → a ≤ n * c) → (t ≡ false → b ≡ 0) → Upto n (sum binary64 s a t b c)
  unfolding sum
  sum_upto true true a b c C h k = upto_negative n (a + b) c
  sum_upto false false a b c C h k = upto_round false (a + b) c C (λ _. go (n * c) a b (h refl) (k refl))
    where
      go : (l a b : ℕ) → a ≤ l → b ≡ 0 → a + b ≤ l
      go l a b h k = omega arith
  sum_upto true false a b c C h k = go (ltb a b) (ltb b a) refl
    where
      left : (l a b : ℕ) → b ≡ 0 → b - a ≤ l
      left l a b k = omega arith

      right : (l a b : ℕ) → b ≡ 0 → a ≤ b → a - b ≤ l
      right l a b k h = omega arith

      go : (p u : Bool) → ltb b a ≡ u → Upto n (cond p (round binary64 false (b - a) c) (round binary64 u (a - b) c))
      go true u e = upto_round false (b - a) c C (λ _. left (n * c) a b (k refl))
      go false true e = upto_negative n (a - b) c
      go false false e = upto_round false (a - b) c C (λ _. right (n * c) a b (k refl) (ltb-false b a e))
  sum_upto false true a b c C h k = go (ltb a b)
    where
      less : (l a b : ℕ) → a ≤ l → a - b ≤ l
      less l a b h = omega arith

      go : (p : Bool) → Upto n (cond p (round binary64 true (b - a) c) (round binary64 false (a - b) c))
      go true = upto_negative n (b - a) c
      go false = upto_round false (a - b) c C (λ _. less (n * c) a b (h refl))

  pub sub_upto : (x y : Float) → Upto n x → NotNegative y → Upto n (sub binary64 x y)
  unfolding sub neg add
  sub_upto nan y h k = tt
  sub_upto (inf s) nan h k = tt
  sub_upto (inf s) (inf t) h k = go (beq s (not t))
    where
      go : (b : Bool) → Upto n (cond b (inf s) nan)
      go true = tt
      go false = tt
  sub_upto (inf s) (fin t i d) h k = tt
  sub_upto (fin s m e) nan h k = tt
  sub_upto (fin s m e) (inf t) h k = tt
  sub_upto (fin s m e) (fin t i d) h k =
      sum_upto s (not t) (m * up e * down d) (i * up d * down e) (down e * down d) (mul-pos (down_pos e) (down_pos d)) (left s h) (right t k)
    where
      wider : (x p q : ℕ) → x * 1 * q ≤ n * p * q → x * q ≤ n * (p * q)
      wider x p q h = omega arith

      left : (s : Bool) → Upto n (fin s m e) → s ≡ false → m * up e * down d ≤ n * (down e * down d)
      left true h z = absurd (true≢false z)
      left false h z = wider (m * up e) (down e) (down d) (mul-le-mul_right (down d) h)

      zero_times : (y p q : ℕ) → y * 1 ≤ 0 * q → y * p ≡ 0
      zero_times zero p q h = omega arith
      zero_times (suc y) p q h = absurd (omega arith)

      right : (t : Bool) → NotNegative (fin t i d) → not t ≡ false → i * up d * down e ≡ 0
      right false k z = absurd (true≢false z)
      right true (inl c) z = absurd c
      right true (inr c) z = zero_times (i * up d) (down e) (down d) c

pub greater_within : (a n : ℕ) (x : Float) → Within a x → Upto n x → Within n (greater x (decimal 0 0))
unfolding greater is_nan lt round
greater_within a n nan h k = absurd h
greater_within a n (inf s) h k = absurd h
greater_within a n (fin s m e) h k = go s (lt (fin s m e) (decimal 0 0)) refl k
  where
    low : (n : ℕ) → 0 ≤ n
    low n = omega arith

    none : (x p : ℕ) → x * 1 + 0 * p ≤ 0 → x * 1 ≤ n * p
    none zero p h = omega arith
    none (suc x) p h = absurd (omega arith)

    go : (s b : Bool) → lt (fin s m e) (decimal 0 0) ≡ b → Upto n (fin s m e) → Within n (cond b (decimal 0 0) (fin s m e))
    go s true q k = low (n * 1)
    go false false q k = k
    go true false q k = none (m * up e) (down e) (ltb-false 0 (m * up e * 1 + 0 * down e) q)

-- ---- what the tests of a limit say of a number
pub tested_not_negative : (x : Float) → T (le (decimal 0 0) x) → NotNegative x
unfolding le lt eq round
tested_not_negative nan h = inl tt
tested_not_negative (inf true) h = absurd h
tested_not_negative (inf false) h = inl tt
tested_not_negative (fin true m e) h = inr (go (m * up e) (down e) (eqb→eq (0 * down e) (m * up e * 1) (and_l (eqb (0 * down e) (m * up e * 1)) _ h)))
  where
    go : (x d : ℕ) → 0 * d ≡ x * 1 → x * 1 ≤ 0 * d
    go x d e = omega arith
tested_not_negative (fin false m e) h = inl tt

-- above a positive number
pub above_clear : (x y : Float) → T (positive y) → T (le y x) → T (clear x)
above_clear x y p h = go x (above_of_le y x p h)
  where
    go : (x : Float) → T (above x) → T (clear x)
    go nan a = absurd a
    go (inf true) a = absurd a
    go (inf false) a = tt
    go (fin true m e) a = absurd a
    go (fin false m e) a = tt

pub tested_within : (n : ℕ) (x : Float) → n ≤ 2 ^ 53 → NotNegative x → T (le x (decimal n 0)) → Within n x
tested_within n x few (inl c) h = le_under x (decimal n 0) n 1 c (whole_exact n few) h
tested_within n x few (inr z) h = within_less x (low n) z
  where
    low : (n : ℕ) → 0 ≤ n
    low n = omega arith
