-- Decimal and hexadecimal digits, one a turn.
use mathlib.Core.Path.{◌≡◌, refl, sym, ◌∙◌, ap}
use mathlib.Core.Bool.{Bool, true, false, cond}
use mathlib.Core.List.{List, [], ◌∷◌, ◌++◌}
use Prim.Native.Nat.{ℕ, zero, suc, ◌+◌, ◌-◌, ◌/◌, ◌%◌, ◌^◌, ◌<◌, ◌≤◌}
use native.Mathlib.Nat.{pow-suc}
use native.Mathlib.Omega.{arith}
use borrow.Author.Tests.{lt-ltb, le-ltb, ltb-true, ltb-false}
use lib.Dec.{ltb}
use Rattle.text.specs.Decimal.{digits, decimal_text}
use lib.ListN.{length, set, length-append}
use lib.Seq.{sets}
use Rattle.text.specs.Hex.{hex_digit, hex_digits}
use Rattle.text.proofs.Midst.{last_first}

-- ---- decimal

-- one digit is enough, and one more makes no difference
one_digit : (k n : ℕ) → n < 10 → digits (suc k) n ≡ (48 + n) ∷ []
unfolding digits
one_digit k n h = rw (lt-ltb n 10 h)

more_digits : (k n : ℕ) → 10 ≤ n → digits (suc k) n ≡ digits k (n / 10) ++ ((48 + n % 10) ∷ [])
unfolding digits
more_digits k n h = rw (le-ltb n 10 h)

enough : (k n : ℕ) → n < 10 ^ suc k → digits (suc k) n ≡ digits (suc (suc k)) n
enough zero n h = one_digit 0 n h ∙ sym (one_digit 1 n h)
enough (suc k) n h = go (ltb n 10) refl (λ g. enough k (n / 10) g)
  where
    go : (b : Bool) → ltb n 10 ≡ b → (n / 10 < 10 ^ suc k → digits (suc k) (n / 10) ≡ digits (suc (suc k)) (n / 10)) → digits (suc (suc k)) n ≡ digits (suc (suc (suc k))) n
    go true e f = let s = ltb-true n 10 e in one_digit (suc k) n s ∙ sym (one_digit (suc (suc k)) n s)
    go false e f =
        let s = ltb-false n 10 e in
        let p = pow-suc 10 (suc k) in
        more_digits (suc k) n s ∙ ap (λ t. t ++ ((48 + n % 10) ∷ [])) (f (omega arith)) ∙ sym (more_digits (suc (suc k)) n s)

module _ (n : ℕ) where
  pub decimal_one : n < 10 → decimal_text n ≡ (48 + n) ∷ []
  decimal_one = one_digit 19 n

  module _ (h : 10 ≤ n) (g : n < 2 ^ 64) where
    pub decimal_more : decimal_text n ≡ decimal_text (n / 10) ++ ((48 + n % 10) ∷ [])
    decimal_more = more_digits 19 n h ∙ ap (λ t. t ++ ((48 + n % 10) ∷ [])) (enough 18 (n / 10) (omega arith))

    pub length_more : length (decimal_text n) ≡ length (decimal_text (n / 10)) + 1
    length_more = ap length decimal_more ∙ length-append (decimal_text (n / 10)) ((48 + n % 10) ∷ [])

pub length_one : (n : ℕ) → n < 10 → length (decimal_text n) ≡ 1
length_one n h = ap length (decimal_one n h)

-- more than one digit from 10 on, and no other number has more
pub tens : (n : ℕ) → 1 < length (decimal_text n) → 10 ≤ n
tens n h = by (ltb n 10) refl
  where
    by : (b : Bool) → ltb n 10 ≡ b → 10 ≤ n
    by true e = let l = length_one n (ltb-true n 10 e) in absurd (omega arith)
    by false e = ltb-false n 10 e

pub a_digit : (k n : ℕ) → 1 ≤ length (digits (suc k) n)
unfolding digits
a_digit k n = by (ltb n 10)
  where
    by : (b : Bool) → 1 ≤ length (cond b ((48 + n) ∷ []) (digits k (n / 10) ++ ((48 + n % 10) ∷ [])))
    by true = omega arith
    by false = omega (arith, length-append (digits k (n / 10)) ((48 + n % 10) ∷ []))

pub ones : (n : ℕ) → n < 2 ^ 64 → length (decimal_text n) ≤ 1 → n < 10
ones n g h = by (ltb n 10) refl
  where
    by : (b : Bool) → ltb n 10 ≡ b → n < 10
    by true e = ltb-true n 10 e
    by false e = let l = length_more n (ltb-false n 10 e) g in let m = a_digit 19 (n / 10) in absurd (omega arith)

pub length_at_most : (k n : ℕ) → length (digits k n) ≤ k
unfolding digits
length_at_most zero n = omega arith
length_at_most (suc k) n = go (ltb n 10) (length_at_most k (n / 10))
  where
    go : (b : Bool) → length (digits k (n / 10)) ≤ k → length (cond b ((48 + n) ∷ []) (digits k (n / 10) ++ ((48 + n % 10) ∷ []))) ≤ suc k
    go true h = omega arith
    go false h = rw (length-append (digits k (n / 10)) ((48 + n % 10) ∷ [])) (omega arith)

pub length_below : (k j n : ℕ) → n < 10 ^ suc k → length (digits j n) ≤ suc k
unfolding digits
length_below k zero n h = omega arith
length_below k (suc j) n h = go k (ltb n 10) refl h (λ i g. length_below i j (n / 10) g)
  where
    go : (k : ℕ) (b : Bool) → ltb n 10 ≡ b → n < 10 ^ suc k → ((i : ℕ) → n / 10 < 10 ^ suc i → length (digits j (n / 10)) ≤ suc i)
        → length (cond b ((48 + n) ∷ []) (digits j (n / 10) ++ ((48 + n % 10) ∷ []))) ≤ suc k
    go k true e h f = omega arith
    go zero false e h f = let s = ltb-false n 10 e in omega arith
    go (suc k) false e h f =
        let s = ltb-false n 10 e in
        let p = pow-suc 10 (suc k) in
        let g = f k (omega arith) in
        rw (length-append (digits j (n / 10)) ((48 + n % 10) ∷ [])) (omega arith)

-- the lowest digit of `rest` is stored, and what stands above it is left
pub decimal_down : (d e t : List ℕ) (a i rest : ℕ) → i ≡ a + length (decimal_text rest) → 10 ≤ rest → rest < 2 ^ 64 → sets e a (decimal_text rest) ≡ sets d a t
    → (i - 1 ≡ a + length (decimal_text (rest / 10))) × (sets (set e (i - 1) (48 + rest % 10)) a (decimal_text (rest / 10)) ≡ sets d a t)
decimal_down d e t a i rest h g f w =
    let l = length_more rest g f in
    let j : i - 1 ≡ a + length (decimal_text (rest / 10)) = omega arith in
    (j, last_first e (decimal_text (rest / 10)) a (i - 1) (48 + rest % 10) j ∙ ap (λ x. sets e a x) (sym (decimal_more rest g f)) ∙ w)

pub decimal_top : (d e t : List ℕ) (a rest : ℕ) → rest < 10 → sets e a (decimal_text rest) ≡ sets d a t → set e a (48 + rest) ≡ sets d a t
decimal_top d e t a rest h w = ap (λ x. sets e a x) (sym (decimal_one rest h)) ∙ w

-- ---- hexadecimal

pub length_hex : (k n : ℕ) → length (hex_digits k n) ≡ k
unfolding hex_digits
length_hex zero n = refl
length_hex (suc k) n = length-append (hex_digits k (n / 16)) (hex_digit (n % 16) ∷ []) ∙ (let h = length_hex k (n / 16) in omega arith)

hex_more : (k n : ℕ) → hex_digits (suc k) n ≡ hex_digits k (n / 16) ++ (hex_digit (n % 16) ∷ [])
unfolding hex_digits
hex_more k n = refl

pub hex_down : (d e t : List ℕ) (a i rest v : ℕ) → 0 < i → v ≡ hex_digit (rest % 16) → sets e a (hex_digits i rest) ≡ sets d a t → sets (set e (a + (i - 1)) v) a (hex_digits (i - 1) (rest / 16)) ≡ sets d a t
hex_down d e t a i rest v h g w =
    let j : a + (i - 1) ≡ a + length (hex_digits (i - 1) (rest / 16)) = ap (λ k. a + k) (sym (length_hex (i - 1) (rest / 16))) in
    let s : i ≡ suc (i - 1) = omega arith in
    let m : hex_digits i rest ≡ hex_digits (i - 1) (rest / 16) ++ (v ∷ []) = ap (λ k. hex_digits k rest) s ∙ rw g (hex_more (i - 1) rest) in
    last_first e (hex_digits (i - 1) (rest / 16)) a (a + (i - 1)) v j ∙ ap (λ x. sets e a x) (sym m) ∙ w

pub hex_top : (d e t : List ℕ) (a i rest : ℕ) → i ≡ 0 → sets e a (hex_digits i rest) ≡ sets d a t → e ≡ sets d a t
unfolding hex_digits
hex_top d e t a i rest h w = rw h at w
