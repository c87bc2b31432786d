-- The root of a sum of two squares, as a length: each of the two is at most twice it (`part_twice`), so a quotient by it is small, and so is a number over it times a part (`along_within`).
use Rattle.std.proofs.Common.{◌≡◌, ℕ, zero, suc, ◌+◌, ◌*◌, ◌/◌, ◌^◌, ◌<◌, ◌≤◌, Bool, true, false, cond, not, T, eqb, pos, sym, refl, ap, ◌∙◌, subst, inl, inr, true≢false, le_trans, le_of_eq, lt_of_le_of_lt, le_of_lt, mul-le-mul_right, div-lt_iff_lt-mul, mul-le-mul, mul-le-mul_left, mul-pos, pow-suc, le-div_iff_mul-le, mul-one, le_of_mul-le-mul_right, arith, lit<, lit≤, ltb→lt, pow_pos, pow-add, ltb-false}
use native.Mathlib.Nat.{mul-mul-mul_comm, eq_of_mul-eq-mul_right}
use lib.Dec.{eqb-suc-zero}
use lib.Ieee.{Float, nan, inf, fin, binary64, up, down, size, round, sum, add, mul, div, lt, le, fits, is_nan}
use lib.Ieee.Digits.{size-lt, size_reaches}
use lib.Ieee.Fits.{up_pos, down_pos, round-fits, add-fits}
use lib.Ieee.Exact.{HasValue}
use lib.Ieee.Order.{round_mono, le_of_values}
use lib.Ieee.Positive.{num, den, positive, den_pos, own_value, value→cross, positive_of_value, values_of_le, through}
use Rattle.float.specs.Helpers.{decimal, absolute, is_finite}
use Rattle.float.specs.Root.{root}
use Rattle.float.proofs.Signs.{clash, yes}
use Rattle.float.proofs.Held.{pow_lt_back}
use Rattle.float.proofs.Patterns.{here_or_on, is_number}
use Rattle.float.proofs.Nearest.{root_nearest, root_exact}
use Rattle.float.proofs.Order.{clear, zero_le, suc_positive, root-clear, root_monotone}
use Rattle.float.proofs.Least.{clear-round, clear-square, clear-sum}
use Rattle.float.proofs.Within.{Under, Within, Exact, whole_exact, power_exact, under_own, under_less, within_less, within_finite, at_most, le_under, round_under, add_exact, add_within, mul_under, mul_within, Times}

-- ---- the binary digits before a fraction a / c from 1 up
record Digits (a c : ℕ) : Type 0 where
  pub log : ℕ
  pub least : 2 ^ log * c ≤ a
  pub most : a < 2 ^ suc log * c

digits : (a c : ℕ) → 0 < c → c ≤ a → Digits a c
digits a c C h = go (size (a / c)) (size-lt (a / c)) (size_reaches (a / c))
  where
    one : 1 ≤ a / c
    one = (le-div_iff_mul-le C).1 (le_trans (le_of_eq (plain c)) h)
      where
        plain : (c : ℕ) → 1 * c ≡ c
        plain c = omega arith

    go : (z : ℕ) → a / c < 2 ^ z → ((j : ℕ) → j < z → 2 ^ j ≤ a / c) → Digits a c
    go zero l r = absurd (none (a / c) l one)
      where
        none : (n : ℕ) → n < 1 → 1 ≤ n → ⊥
        none n p q = omega arith
    go (suc z) l r = record { log = z; least = (le-div_iff_mul-le C).0 (r z (up_to z)); most = (div-lt_iff_lt-mul C).0 l }
      where
        up_to : (z : ℕ) → z < suc z
        up_to z = omega arith

-- ---- the root of an even power of two
module _ (j : ℕ) (few : j ≤ 500) where
  abbrev square : Float
  square = round binary64 false (2 ^ (j + j)) (2 ^ 80)

  abbrev side : Float
  side = round binary64 false (2 ^ j) (2 ^ 40)

  square_exact : Exact (2 ^ (j + j)) (2 ^ 80)
  square_exact = power_exact (j + j) 80 (lit≤ tt) (go j few)
    where
      go : (j : ℕ) → j ≤ 500 → j + j < 1024 + 80
      go j h = omega arith

  side_exact : Exact (2 ^ j) (2 ^ 40)
  side_exact = power_exact j 40 (lit≤ tt) (go j few)
    where
      go : (j : ℕ) → j ≤ 500 → j < 1024 + 40
      go j h = omega arith

  square-positive : T (positive square)
  square-positive = positive_of_value square (2 ^ (j + j)) (2 ^ 80) square_exact (pow_pos (j + j))

  side_positive : T (positive side)
  side_positive = positive_of_value side (2 ^ j) (2 ^ 40) side_exact (pow_pos j)

  root_side : root square ≡ side
  root_side =
      root_exact square side (round-fits binary64 false (2 ^ (j + j)) (2 ^ 80)) square-positive (round-fits binary64 false (2 ^ j) (2 ^ 40)) side_positive
      (eq_of_mul-eq-mul_right (2 ^ 80) (pow_pos 80) (num side * num side * den square) (num square * (den side * den side))
      (go (num side) (den side) (num square) (den square) (2 ^ j) (2 ^ 40) (value→cross side (2 ^ j) (2 ^ 40) side_exact) (value→cross square (2 ^ (j + j)) (2 ^ 80) square_exact ∙ ap (λ (k : ℕ). k * den square) (pow-add 2 j j))))
    where
      left : (n d p w : ℕ) → n * n * d * (w * w) ≡ n * w * (n * w) * d
      left n d p w = omega arith

      middle : (p d e : ℕ) → p * d * (p * d) * e ≡ p * p * e * (d * d)
      middle p d e = omega arith

      right : (m d w : ℕ) → m * (w * w) * (d * d) ≡ m * (d * d) * (w * w)
      right m d w = omega arith

      go : (n d m e p w : ℕ) → n * w ≡ p * d → m * (w * w) ≡ p * p * e → n * n * e * (w * w) ≡ m * (d * d) * (w * w)
      go n d m e p w a b = left n e p w ∙ ap (λ (k : ℕ). k * k * e) a ∙ middle p d e ∙ ap (λ (k : ℕ). k * (d * d)) (sym b) ∙ right m d w

  pub not_below : T (le (decimal 0 0) square)
  unfolding round
  not_below = zero_le false (pos 0) square (clear-round binary64 (2 ^ (j + j)) (2 ^ 80)) (is_number square square-positive)

-- ---- what counts as a length: above 0, and at least 2 ^ -40
pub record Long (l : Float) : Type 0 where
  pub above : T (positive l)
  pub least : den l ≤ num l * 2 ^ 40

-- a root that is not below a positive number t, which is at least 2 ^ -40 itself
pub long_root : (s t : Float) → T (fits binary64 s) → T (clear s) → is_finite s ≡ true → Long t → lt (root s) t ≡ false → Long (root s)
unfolding root is_finite lt
long_root s nan F c f g h = absurd g.above
long_root s (inf u) F c f g h = absurd g.above
long_root s (fin true n d) F c f g h = absurd g.above
long_root nan (fin false n d) F c f g h = clash f refl
long_root (inf u) (fin false n d) F c f g h = clash f refl
long_root (fin true m e) (fin false n d) F c f g h = absurd c
long_root (fin false zero e) (fin false n d) F c f g h =
    absurd (none (up e) (down d) (n * up d * down e) (mul-pos (mul-pos (ltb→lt 0 n g.above) (up_pos d)) (down_pos e)) (ltb-false (0 * up e * down d) (n * up d * down e) h))
  where
    none : (a b c : ℕ) → 0 < c → c ≤ 0 * a * b → ⊥
    none a b c p q = omega arith
long_root (fin false (suc m) e) (fin false n d) F c f g h = go (root (fin false (suc m) e)) (root_nearest (fin false (suc m) e) F (suc_positive m e)).above_zero h
  where
    plain : (k l : ℕ) → 1 * k ≤ l → k ≤ l
    plain k l h = omega arith

    other : (k l : ℕ) → k ≤ l → 1 * k ≤ l
    other k l h = omega arith

    go : (l : Float) → T (positive l) → lt l (fin false n d) ≡ false → Long l
    go nan p h = absurd p
    go (inf u) p h = absurd p
    go (fin true i q) p h = absurd p
    go (fin false i q) p h = record {
      above = p;
      least = plain (down q) (i * up q * 2 ^ 40)
          (through 1 (n * up d) (i * up q) (2 ^ 40) (down d) (down q) (down_pos d) (other (down d) (n * up d * 2 ^ 40) g.least) (ltb-false (i * up q * down d) (n * up d * down q) h));
    }

positive-num : (l : Float) → T (positive l) → 0 < num l
positive-num nan p = absurd p
positive-num (inf s) p = absurd p
positive-num (fin true m e) p = absurd p
positive-num (fin false m e) p = mul-pos (ltb→lt 0 m p) (up_pos e)

positive-clear : (l : Float) → T (positive l) → T (clear l)
positive-clear nan p = absurd p
positive-clear (inf s) p = absurd p
positive-clear (fin true m e) p = absurd p
positive-clear (fin false m e) p = tt

square_is : (x : Float) → is_finite x ≡ true → mul binary64 x x ≡ round binary64 false (num x * num x) (den x * den x)
unfolding mul is_finite
square_is nan f = clash f refl
square_is (inf s) f = clash f refl
square_is (fin true m e) f = refl
square_is (fin false m e) f = refl

-- ---- a part x of a length root s, where s is at least what the square of x is at least
module _ (x s : Float) (w : Within (2 ^ 53) x) (F : T (fits binary64 s))
    (covers : (a c : ℕ) → 0 < c → Exact a c → T (le (round binary64 false a c) (mul binary64 x x)) → T (le (round binary64 false a c) s)) where
  -- where x is at least 2 ^ (j - 40), so is the length
  module _ (j : ℕ) (few : j ≤ 500) (least : 2 ^ j * den x ≤ num x * 2 ^ 40) where
    under_square : T (le (square j few) (mul binary64 x x))
    under_square =
        subst (λ (v : Float). T (le (square j few) v)) (sym (square_is x (within_finite x (2 ^ 53) 1 w)))
        (round_mono binary64 (2 ^ (j + j)) (2 ^ 80) (num x * num x) (den x * den x) (pow_pos 80) (mul-pos (den_pos x) (den_pos x))
        (le_trans (le_of_eq (ap (λ (k : ℕ). k * (den x * den x)) (pow-add 2 j j) ∙ mul-mul-mul_comm (2 ^ j) (2 ^ j) (den x) (den x)))
        (le_trans (mul-le-mul least least) (le_of_eq (mul-mul-mul_comm (num x) (2 ^ 40) (num x) (2 ^ 40))))))

    under_length : T (le (side j few) (root s))
    under_length =
        subst (λ (v : Float). T (le v (root s))) (root_side j few)
        (root_monotone (square j few) s (round-fits binary64 false (2 ^ (j + j)) (2 ^ 80)) F (not_below j few) (covers (2 ^ (j + j)) (2 ^ 80) (pow_pos 80) (square_exact j few) under_square))

  module _ (long : Long (root s)) where
    -- for x from 2 ^ -40 up, by its leading digit
    module _ (D : Digits (num x * 2 ^ 40) (den x)) where
      abbrev j : ℕ
      j = D.log

      few : j ≤ 500
      few = small j (pow_lt_back j 94 (lt_of_le_of_lt (le_of_mul-le-mul_right (le_trans D.least (go (num x) (den x) (under_own x (2 ^ 53) 1 w))) (den_pos x)) (lit< tt)))
        where
          go : (n d : ℕ) → n * 1 ≤ 9007199254740992 * d → n * 1099511627776 ≤ 9903520314283042199192993792 * d
          go n d h = omega arith

          small : (j : ℕ) → j < 94 → j ≤ 500
          small j h = omega arith

      from_digits : num x * den (root s) ≤ 2 * (num (root s) * den x)
      from_digits =
          le_of_mul-le-mul_right
          (go (num x) (den x) (num (root s)) (den (root s)) (2 ^ 40) (2 ^ j) (2 ^ suc j) (pow-suc 2 j) (mul-le-mul_right (den (root s)) (le_of_lt D.most))
          (mul-le-mul_right (den x) (values_of_le (side j few) (root s) (2 ^ j) (2 ^ 40) (num (root s)) (den (root s)) (side_positive j few) long.above (side_exact j few) (own_value (root s) long.above) (under_length j few D.least))))
          (pow_pos 40)
        where
          go : (x p n q w a b : ℕ) → b ≡ a * 2 → x * w * q ≤ b * p * q → a * q * p ≤ n * w * p → x * q * w ≤ 2 * (n * p) * w
          go x p n q w a b e f g = omega (arith, ap (λ (k : ℕ). k * p * q) e)

    pub part_twice : Times 2 x (root s)
    part_twice = record {
      finite = within_finite x (2 ^ 53) 1 w;
      unsigned = positive-clear (root s) long.above;
      some = positive-num (root s) long.above;
      most = elim (here_or_on (num x * 2 ^ 40) (den x)) [
        | inl h ↦ small (num x) (den x) (num (root s)) (den (root s)) (2 ^ 40) (mul-le-mul_left (num x) long.least) (mul-le-mul_left (num (root s)) (le_of_lt h))
        | inr h ↦ from_digits (digits (num x * 2 ^ 40) (den x) (den_pos x) h)
      ];
    }
      where
        small : (x p n q w : ℕ) → x * q ≤ x * (n * w) → n * (x * w) ≤ n * p → x * q ≤ 2 * (n * p)
        small x p n q w f g = omega arith

-- ---- the root of x * x + y * y
-- finite and not below 0
pub record Plain (q : Float) : Type 0 where
  pub finite : is_finite q ≡ true
  pub unsigned : T (clear q)

pub least_of_lem : (p q : Float) (a c : ℕ) → HasValue p false a c → Plain q → T (le p q) → a * den q ≤ num q * c
unfolding le is_finite
least_of_lem nan q a c v g h = absurd v
least_of_lem (inf s) q a c v g h = absurd v
least_of_lem (fin true k f) q a c v g h = absurd (true≢false v.0)
least_of_lem (fin false k f) nan a c v g h = absurd h
least_of_lem (fin false k f) (inf s) a c v g h = clash g.finite refl
least_of_lem (fin false k f) (fin true m e) a c v g h = absurd g.unsigned
least_of_lem (fin false k f) (fin false m e) a c v g h =
    through a (k * up f) (m * up e) c (down f) (down e) (down_pos f) (le_of_eq (sym v.1)) (at_most (k * up f * down e) (m * up e * down f) h)

sum_is : (q w : Float) → Plain q → Plain w → add binary64 q w ≡ round binary64 false (num q * den w + num w * den q) (den q * den w)
unfolding add sum is_finite
sum_is nan w g h = clash g.finite refl
sum_is (inf s) w g h = clash g.finite refl
sum_is (fin true m e) w g h = absurd g.unsigned
sum_is (fin false m e) nan g h = clash h.finite refl
sum_is (fin false m e) (inf t) g h = clash h.finite refl
sum_is (fin false m e) (fin true n d) g h = absurd h.unsigned
sum_is (fin false m e) (fin false n d) g h = refl

module _ (q w : Float) (g : Plain q) (h : Plain w) (a c : ℕ) (C : 0 < c) (v : Exact a c) where
  over_sum : a * (den q * den w) ≤ (num q * den w + num w * den q) * c → T (le (round binary64 false a c) (add binary64 q w))
  over_sum l = subst (λ (z : Float). T (le (round binary64 false a c) z)) (sym (sum_is q w g h)) (round_mono binary64 a c (num q * den w + num w * den q) (den q * den w) C (mul-pos (den_pos q) (den_pos w)) l)

  over_first : T (le (round binary64 false a c) q) → T (le (round binary64 false a c) (add binary64 q w))
  over_first l = over_sum (go (num q) (den q) (num w) (den w) (mul-le-mul_right (den w) (least_of_lem (round binary64 false a c) q a c v g l)))
    where
      go : (n p m r : ℕ) → a * p * r ≤ n * c * r → a * (p * r) ≤ (n * r + m * p) * c
      go n p m r l = omega arith

  over_second : T (le (round binary64 false a c) w) → T (le (round binary64 false a c) (add binary64 q w))
  over_second l = over_sum (go (num q) (den q) (num w) (den w) (mul-le-mul_right (den q) (least_of_lem (round binary64 false a c) w a c v h l)))
    where
      go : (n p m r : ℕ) → a * r * p ≤ m * c * p → a * (p * r) ≤ (n * r + m * p) * c
      go n p m r l = omega arith

module _ (x y : Float) (wx : Within (2 ^ 53) x) (wy : Within (2 ^ 53) y) where
  abbrev squares : Float
  squares = add binary64 (mul binary64 x x) (mul binary64 y y)

  square_under : (z : Float) → Within (2 ^ 53) z → Within (2 ^ 106) (mul binary64 z z)
  square_under z h = mul_under z z (2 ^ 53) 1 (2 ^ 53) 1 (2 ^ 106) 1 (lit< tt) (lit< tt) (lit< tt) (power_exact 106 0 (lit≤ tt) (lit< tt)) (lit≤ tt) h h

  square_plain : (z : Float) → Within (2 ^ 53) z → Plain (mul binary64 z z)
  square_plain z h = record { finite = within_finite (mul binary64 z z) (2 ^ 106) 1 (square_under z h); unsigned = clear-square z }

  squares_finite : is_finite squares ≡ true
  squares_finite = within_finite squares (2 ^ 107) 1 (add_exact (2 ^ 107) (power_exact 107 0 (lit≤ tt) (lit< tt)) (mul binary64 x x) (mul binary64 y y) (2 ^ 106) (2 ^ 106) (lit≤ tt) (square_under x wx) (square_under y wy))

  squares_clear : T (clear squares)
  squares_clear = clear-sum (mul binary64 x x) (mul binary64 y y) (clear-square x) (clear-square y)

  squares_fit : T (fits binary64 squares)
  squares_fit = add-fits binary64 (mul binary64 x x) (mul binary64 y y)

  -- the sum is at least what either square is at least
  over_x : (a c : ℕ) → 0 < c → Exact a c → T (le (round binary64 false a c) (mul binary64 x x)) → T (le (round binary64 false a c) squares)
  over_x a c C v l = over_first (mul binary64 x x) (mul binary64 y y) (square_plain x wx) (square_plain y wy) a c C v l

  over_y : (a c : ℕ) → 0 < c → Exact a c → T (le (round binary64 false a c) (mul binary64 y y)) → T (le (round binary64 false a c) squares)
  over_y a c C v l = over_second (mul binary64 x x) (mul binary64 y y) (square_plain x wx) (square_plain y wy) a c C v l

  -- where it is not below t, it is long, and each part is at most twice it
  module _ (t : Float) (short : Long t) (h : lt (root squares) t ≡ false) where
    pub long : Long (root squares)
    long = long_root squares t squares_fit squares_clear squares_finite short h

    pub first_twice : Times 2 x (root squares)
    first_twice = part_twice x squares wx squares_fit over_x long

    pub second_twice : Times 2 y (root squares)
    second_twice = part_twice y squares wy squares_fit over_y long

pub tiny_long : Long (decimal 1 12)
unfolding round
tiny_long = record { above = tt; least = lit≤ tt }

pub small_long : Long (decimal 1 9)
unfolding round
small_long = record { above = tt; least = lit≤ tt }

-- ---- of parts up to 2,000,000 the length is at most 2 ^ 22
own : (s : Float) → is_finite s ≡ true → T (clear s) → HasValue s false (num s) (den s)
unfolding is_finite
own nan f c = clash f refl
own (inf t) f c = clash f refl
own (fin true m e) f c = absurd c
own (fin false m e) f c = (refl, refl)

a_number : (s : Float) → is_finite s ≡ true → T (not (is_nan s))
unfolding is_finite is_nan
a_number nan f = clash f refl
a_number (inf t) f = tt
a_number (fin t m e) f = tt

pub length_within : (x y : Float) → Within 2000000 x → Within 2000000 y → Within 4194304 (root (add binary64 (mul binary64 x x) (mul binary64 y y)))
length_within x y h k =
    let wx = within_less x (lit≤ tt) h in
    let wy = within_less y (lit≤ tt) k in
    let s = squares x y wx wy in
    let f = squares_finite x y wx wy in
    let c = squares_clear x y wx wy in
    let F = squares_fit x y wx wy in
    let few : 62 ≤ 500 = lit≤ tt in
    let u : Within 8000000000000 s = add_within 8000000000000 (lit≤ tt) (mul binary64 x x) (mul binary64 y y) 4000000000000 4000000000000 (lit≤ tt) (mul_within x x 2000000 2000000 4000000000000 (lit≤ tt) (lit≤ tt) h h) (mul_within y y 2000000 2000000 4000000000000 (lit≤ tt) (lit≤ tt) k k) in
    let l : T (le s (square 62 few)) = le_of_values s (square 62 few) (num s) (den s) (2 ^ 124) (2 ^ 80) (den_pos s) (pow_pos 80) (own s f c) (square_exact 62 few) (through (num s) 8000000000000 (2 ^ 124) (den s) 1 (2 ^ 80) (lit< tt) (under_own s 8000000000000 1 u) (lit≤ tt)) in
    let r : T (le (root s) (side 62 few)) = subst (λ (v : Float). T (le (root s) v)) (root_side 62 few) (root_monotone s (square 62 few) F (round-fits binary64 false (2 ^ 124) (2 ^ 80)) (unfold round in zero_le false (pos 0) s c (a_number s f)) l) in
    under_less (root s) (2 ^ 62) (2 ^ 40) 4194304 1 (pow_pos 40) (lit≤ tt) (le_under (root s) (side 62 few) (2 ^ 62) (2 ^ 40) (root-clear s F c) (side_exact 62 few) r)

-- ---- a part of 2 ^ -20 or more makes the length more than 1e-12
-- a size that is not below a limit of at least 2 ^ -20
pub size_least : (x limit : Float) → is_finite x ≡ true → Plain limit → den limit ≤ num limit * 2 ^ 20 → lt (absolute x) limit ≡ false → den x ≤ num x * 2 ^ 20
unfolding absolute is_finite lt
size_least nan limit f g l h = clash f refl
size_least (inf s) limit f g l h = clash f refl
size_least (fin s m e) nan f g l h = clash g.finite refl
size_least (fin s m e) (inf t) f g l h = clash g.finite refl
size_least (fin s m e) (fin true n d) f g l h = absurd g.unsigned
size_least (fin s m e) (fin false n d) f g l h =
    plain (down e) (m * up e * 2 ^ 20)
    (through 1 (n * up d) (m * up e) (2 ^ 20) (down d) (down e) (down_pos d) (other (down d) (n * up d * 2 ^ 20) l) (ltb-false (m * up e * down d) (n * up d * down e) h))
  where
    plain : (k l : ℕ) → 1 * k ≤ l → k ≤ l
    plain k l h = omega arith

    other : (k l : ℕ) → k ≤ l → 1 * k ≤ l
    other k l h = omega arith

module _ (x y : Float) (hx : Within 2000000 x) (hy : Within 2000000 y) where
  abbrev wx : Within (2 ^ 53) x
  wx = within_less x (lit≤ tt) hx

  abbrev wy : Within (2 ^ 53) y
  wy = within_less y (lit≤ tt) hy

  few_20 : 20 ≤ 500
  few_20 = lit≤ tt

  abbrev length_of : Float
  length_of = root (squares x y wx wy)

  length_plain : Plain length_of
  length_plain = record { finite = within_finite length_of 4194304 1 (length_within x y hx hy); unsigned = root-clear (squares x y wx wy) (squares_fit x y wx wy) (squares_clear x y wx wy) }

  -- 1e-12 is below 2 ^ -20
  tiny_below : num (decimal 1 12) * 1048576 < den (decimal 1 12)
  unfolding round
  tiny_below = lit< tt

  over_tiny : T (le (side 20 few_20) length_of) → le length_of (decimal 1 12) ≡ false
  over_tiny l = go (le length_of (decimal 1 12)) refl
    where
      both : (n d m e : ℕ) → 0 < d → 1048576 * d * e ≤ n * 1099511627776 * e → n * e ≤ m * d → suc (m * 1048576) * d ≤ e * d → ⊥
      both n d m e p a b c = omega arith

      go : (t : Bool) → le length_of (decimal 1 12) ≡ t → t ≡ false
      go false e = refl
      go true e =
          absurd
          (both (num length_of) (den length_of) (num (decimal 1 12)) (den (decimal 1 12)) (den_pos length_of)
          (mul-le-mul_right (den (decimal 1 12)) (least_of_lem (side 20 few_20) length_of (2 ^ 20) (2 ^ 40) (side_exact 20 few_20) length_plain l))
          (under_own length_of (num (decimal 1 12)) (den (decimal 1 12)) (le_under length_of (decimal 1 12) (num (decimal 1 12)) (den (decimal 1 12)) length_plain.unsigned (own_value (decimal 1 12) tiny_long.above) (yes e)))
          (mul-le-mul_right (den length_of) tiny_below))

  from_20 : (n d : ℕ) → d ≤ n * 1048576 → 1048576 * d ≤ n * 1099511627776
  from_20 n d h = omega arith

  pub first_longer : den x ≤ num x * 2 ^ 20 → le length_of (decimal 1 12) ≡ false
  first_longer l = over_tiny (under_length x (squares x y wx wy) wx (squares_fit x y wx wy) (over_x x y wx wy) 20 few_20 (from_20 (num x) (den x) l))

  pub second_longer : den y ≤ num y * 2 ^ 20 → le length_of (decimal 1 12) ≡ false
  second_longer l = over_tiny (under_length y (squares x y wx wy) wy (squares_fit x y wx wy) (over_y x y wx wy) 20 few_20 (from_20 (num y) (den y) l))

-- ---- a number of at most m over a length, times a part of at most d: the part is at most twice the length, so it is at most 4 * m, or d
abbrev negative : Float → Bool
negative nan = false
negative (inf s) = false
negative (fin s m e) = s

finite_div : (n l : Float) → is_finite n ≡ true → T (positive l) → div binary64 n l ≡ round binary64 (negative n) (num n * den l) (num l * den n)
unfolding div is_finite
finite_div nan l f p = clash f refl
finite_div (inf s) l f p = clash f refl
finite_div (fin s m e) nan f p = absurd p
finite_div (fin s m e) (inf t) f p = absurd p
finite_div (fin s m e) (fin true k g) f p = absurd p
finite_div (fin true m e) (fin false zero g) f p = absurd p
finite_div (fin false m e) (fin false zero g) f p = absurd p
finite_div (fin true m e) (fin false (suc k) g) f p = ap (λ (b : Bool). cond b (cond (eqb m 0) nan (inf true)) (round binary64 true (m * up e * down g) (suc k * up g * down e))) (eqb-suc-zero k)
finite_div (fin false m e) (fin false (suc k) g) f p = ap (λ (b : Bool). cond b (cond (eqb m 0) nan (inf false)) (round binary64 false (m * up e * down g) (suc k * up g * down e))) (eqb-suc-zero k)

own_under : (x : Float) → is_finite x ≡ true → Under (num x) (den x) x
unfolding is_finite
own_under nan f = clash f refl
own_under (inf s) f = clash f refl
own_under (fin s m e) f = le_of_eq refl

module _ (n x l : Float) (m d k : ℕ) (few : k ≤ 2 ^ 53) (most : 4 * m + d ≤ k) (wn : Within m n) (wx : Within d x) (long : Long l) (t : Times 2 x l) where
  abbrev a : ℕ
  a = num n * den l

  abbrev c : ℕ
  c = num l * den n

  c_pos : 0 < c
  c_pos = mul-pos t.some (den_pos n)

  quotient : div binary64 n l ≡ round binary64 (negative n) a c
  quotient = finite_div n l (within_finite n m 1 wn) long.above

  shorter : a ≤ c → Within k (mul binary64 (div binary64 n l) x)
  shorter h =
      mul_within (div binary64 n l) x 1 d k few (part m d k most)
      (subst (Within 1) (sym quotient) (round_under (negative n) a c 1 1 c_pos (lit< tt) (whole_exact 1 (lit≤ tt)) (one a c h))) wx
    where
      part : (m d k : ℕ) → 4 * m + d ≤ k → 1 * d ≤ k
      part m d k h = omega arith

      one : (a c : ℕ) → a ≤ c → a * 1 ≤ 1 * c
      one a c h = omega arith

  module _ (D : Digits a c) where
    abbrev i : ℕ
    i = D.log

    -- the quotient is below 2 ^ 93
    i_few : suc i < 1024
    i_few = small i (pow_lt_back i 94 (lt_of_le_of_lt (le_of_mul-le-mul_right (le_trans D.least far) c_pos) (lit< tt)))
      where
        small : (j : ℕ) → j < 94 → suc j < 1024
        small j h = omega arith

        m_few : (m d k : ℕ) → 4 * m + d ≤ k → k ≤ 9007199254740992 → m ≤ 9007199254740992
        m_few m d k h g = omega arith

        go : (n p l q w z : ℕ) → n * q ≤ n * (l * w) → n * 1 * (l * w) ≤ z * p * (l * w) → n * q ≤ z * w * (l * p)
        go n p l q w z f g = omega arith

        far : a ≤ 2 ^ 93 * c
        far = go (num n) (den n) (num l) (den l) (2 ^ 40) (2 ^ 53) (mul-le-mul_left (num n) long.least) (mul-le-mul_right (num l * 2 ^ 40) (under_own n (2 ^ 53) 1 (within_less n (m_few m d k most few) wn)))

    longer : Within k (mul binary64 (div binary64 n l) x)
    longer =
        mul_under (div binary64 n l) x (2 ^ suc i) 1 (num x) (den x) k 1 (lit< tt) (den_pos x) (lit< tt) (whole_exact k few)
        (le_of_mul-le-mul_right (go (num n) (den n) (num x) (den x) (num l) (den l) (2 ^ i) (2 ^ suc i) (pow-suc 2 i) (mul-le-mul_right (num x) D.least) (mul-le-mul_left (num n) t.most) (mul-le-mul_right (num l * den x) (under_own n m 1 wn)) (mul-le-mul_right (den x * c) (part m d k most))) c_pos)
        (subst (Under (2 ^ suc i) 1) (sym quotient) (round_under (negative n) a c (2 ^ suc i) 1 c_pos (lit< tt) (power_exact (suc i) 0 (lit≤ tt) i_few) (le_trans (le_of_eq (mul-one a)) (le_of_lt D.most))))
        (own_under x t.finite)
      where
        part : (m d k : ℕ) → 4 * m + d ≤ k → 4 * m ≤ k
        part m d k h = omega arith

        go : (n p x q l r u v : ℕ) → v ≡ u * 2 → u * (l * p) * x ≤ n * r * x → n * (x * r) ≤ n * (2 * (l * q)) → n * 1 * (l * q) ≤ m * p * (l * q) → 4 * m * (q * (l * p)) ≤ k * (q * (l * p))
            → v * x * 1 * (l * p) ≤ k * (1 * q) * (l * p)
        go n p x q l r u v e f g h i = omega (arith, ap (λ (z : ℕ). z * (x * (l * p))) e)

  pub along_within : Within k (mul binary64 (div binary64 n l) x)
  along_within = elim (here_or_on a c) [ inl h ↦ shorter (le_of_lt h) | inr h ↦ longer (digits a c c_pos h) ]
