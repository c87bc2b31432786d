-- The whole-number root: it is the one number q with q * q ≤ n < (q + 1) * (q + 1), and the digit by digit way to it.
use Rattle.std.proofs.Common.{◌≡◌, ℕ, zero, suc, ◌+◌, ◌*◌, ◌/◌, ◌^◌, ◌<◌, ◌≤◌, Bool, true, false, cond, not, T, leb, sym, subst, le_trans, lt_of_lt_of_le, le_of_suc-le-suc, lt_of_le_of_lt, lt_irrefl, div-lt_iff_lt-mul, mul-le-mul, le_antisymm, pow-suc, lt_of_not-le, add-one, arith, lit<, leb→le}
use lib.Dec.{nleb→lt}
use Rattle.float.specs.Root.{whole_root}

-- q is the root of n, cut to a whole number
abbrev pub IsRoot : ℕ → ℕ → Type 0
IsRoot n q = (q * q ≤ n) × (n < (q + 1) * (q + 1))

step : (n r : ℕ) → IsRoot (n / 4) r → (b : Bool) → (T b → (2 * r + 1) * (2 * r + 1) ≤ n) → (T (not b) → n < (2 * r + 1) * (2 * r + 1)) → IsRoot n (cond b (2 * r + 1) (2 * r))
step n r h true y z = (y tt, upper n r (r * r) h.1)
  where
    upper : (n r s : ℕ) → n / 4 < (r + 1) * (r + 1) → n < (2 * r + 1 + 1) * (2 * r + 1 + 1)
    upper n r s g = omega arith
step n r h false y z = (lower n r h.0, z tt)
  where
    lower : (n r : ℕ) → r * r ≤ n / 4 → 2 * r * (2 * r) ≤ n
    lower n r g = omega arith

pub root_is : (k n : ℕ) → n < 4 ^ k → IsRoot n (whole_root k n)
unfolding whole_root
root_is zero n h = go n h
  where
    go : (n : ℕ) → n < 1 → (0 * 0 ≤ n) × (n < (0 + 1) * (0 + 1))
    go n h = omega arith
root_is (suc k) n h =
    let r = whole_root k (n / 4) in
    step n r (root_is k (n / 4) ((div-lt_iff_lt-mul (lit< tt)).1 (subst (λ (p : ℕ). n < p) (pow-suc 4 k) h)))
    (leb ((2 * r + 1) * (2 * r + 1)) n) (leb→le ((2 * r + 1) * (2 * r + 1)) n) (nleb→lt ((2 * r + 1) * (2 * r + 1)) n)

-- ---- squares are in the order of the numbers
pub square_le : (a b : ℕ) → a ≤ b → a * a ≤ b * b
square_le a b h = mul-le-mul h h

pub root-le : (a b : ℕ) → a * a < (b + 1) * (b + 1) → a ≤ b
root-le a b h = le_of_suc-le-suc (lt_of_not-le (λ (g : suc b ≤ a). lt_irrefl (a * a) (lt_of_lt_of_le h (square_le (b + 1) a (subst (λ (c : ℕ). c ≤ a) (sym (add-one b)) g)))))

pub root_mono : (n m q r : ℕ) → n ≤ m → IsRoot n q → IsRoot m r → q ≤ r
root_mono n m q r h a b = root-le q r (lt_of_le_of_lt (le_trans a.0 h) b.1)

pub root_unique : (n q r : ℕ) → IsRoot n q → IsRoot n r → q ≡ r
root_unique n q r a b = le_antisymm (root-le q r (lt_of_le_of_lt a.0 b.1)) (root-le r q (lt_of_le_of_lt b.0 a.1))

pub root_found : (k n q : ℕ) → n < 4 ^ k → IsRoot n q → q ≡ whole_root k n
root_found k n q h a = root_unique n q (whole_root k n) a (root_is k n h)

-- ---- as many binary digits as asked for
pub root-digits : (k n : ℕ) → whole_root k n < 2 ^ k
unfolding whole_root
root-digits zero n = lit< tt
root-digits (suc k) n = subst (λ (p : ℕ). whole_root (suc k) n < p) (sym (pow-suc 2 k)) (go (whole_root k (n / 4)) (2 ^ k) (leb ((2 * whole_root k (n / 4) + 1) * (2 * whole_root k (n / 4) + 1)) n) (root-digits k (n / 4)))
  where
    go : (r p : ℕ) (b : Bool) → r < p → cond b (2 * r + 1) (2 * r) < p * 2
    go r p true h = omega arith
    go r p false h = omega arith

-- ---- the whole number c nearest to the root of m, by the digit more that the root of 4 * m has
pub nearest_found : (k m c : ℕ) → 4 * m < 4 ^ k → c * c < m + c → m ≤ c * c + c → c ≡ (whole_root k (4 * m) + 1) / 2
nearest_found k m c h lo hi =
    let q = whole_root k (4 * m) in
    let r = root_is k (4 * m) h in
    half c q (root-le q (2 * c) (lt_of_le_of_lt r.0 (under m c hi))) (least c q lo r.1)
  where
    under : (m c : ℕ) → m ≤ c * c + c → 4 * m < (2 * c + 1) * (2 * c + 1)
    under m c h = omega arith

    over : (m c : ℕ) → suc c * suc c < m + suc c → (2 * c + 1) * (2 * c + 1) ≤ 4 * m
    over m c h = omega arith

    next : (c q : ℕ) → 2 * c + 1 ≤ q → 2 * suc c ≤ q + 1
    next c q h = omega arith

    least : (c q : ℕ) → c * c < m + c → 4 * m < (q + 1) * (q + 1) → 2 * c ≤ q + 1
    least zero q l g = omega arith
    least (suc c) q l g = next c q (root-le (2 * c + 1) q (lt_of_le_of_lt (over m c l) g))

    half : (c q : ℕ) → q ≤ 2 * c → 2 * c ≤ q + 1 → c ≡ (q + 1) / 2
    half c q a b = omega arith
