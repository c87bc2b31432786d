-- Hexadecimal digits spell their number, and the loop that reads them.
use mathlib.Core.Path.{◌≡◌, refl, sym, ◌∙◌}
use mathlib.Core.Bool.{Bool, true, false, cond}
use mathlib.Core.List.{List, [], ◌∷◌, ◌++◌}
use Prim.Native.Nat.{ℕ, zero, suc, ◌+◌, ◌-◌, ◌*◌, ◌/◌, ◌%◌, ◌^◌, ◌≤◌, ◌<◌}
use native.Mathlib.Nat.{pow-suc, pow-le-pow_right}
use native.Mathlib.Numerals.{add-one}
use native.Mathlib.Omega.{arith}
use borrow.Author.Tests.{lt-ltb, le-ltb, ltb-true, ltb-false}
use lib.Dec.{ltb}
use lib.ListN.{length, get_or, drop, drop_of_length-le}
use lib.Seq.{drop-cons}
use Rattle.text.specs.Hex.{hex_digit, hex_digits, hex_text, hex_value, hex_spelled}

-- ---- the value of a byte

module _ (d : ℕ) where
  pub low_value : d < 48 → (0 ≡ hex_value d) × (0 < 16)
  low_value h = let e : 0 ≡ d - 48 = omega arith in (rw (lt-ltb d 58 (omega arith)) e, omega arith)

  pub digit_value : {v : ℕ} → v ≡ d - 48 → d < 58 → (v ≡ hex_value d) × (v < 16)
  digit_value e h = (rw (lt-ltb d 58 h) e, omega arith)

  pub letter_value : {v : ℕ} → v ≡ d - 55 → 58 ≤ d → d < 71 → (v ≡ hex_value d) × (v < 16)
  letter_value e g h = (rw (le-ltb d 58 g, lt-ltb d 71 h) e, omega arith)

  pub high_value : 58 ≤ d → 71 ≤ d → (0 ≡ hex_value d) × (0 < 16)
  high_value g h = (rw (le-ltb d 58 g, le-ltb d 71 h), omega arith)

-- ---- digits spell their number

value_digit : (d : ℕ) → d < 16 → hex_value (hex_digit d) ≡ d
value_digit d h = by (ltb d 10) refl
  where
    by : (b : Bool) → ltb d 10 ≡ b → hex_value (cond b (48 + d) (55 + d)) ≡ d
    by true e = let s = ltb-true d 10 e in sym (digit_value (48 + d) refl (omega arith)).0 ∙ omega arith
    by false e = let s = ltb-false d 10 e in sym (letter_value (55 + d) refl (omega arith) (omega arith)).0 ∙ omega arith

spelled-append : (v : ℕ) (xs ys : List ℕ) → hex_spelled v (xs ++ ys) ≡ hex_spelled (hex_spelled v xs) ys
unfolding hex_spelled
spelled-append v [] ys = refl
spelled-append v (x ∷ xs) ys = spelled-append (v * 16 + hex_value x) xs ys

pub hex_spelled_lem : (k n : ℕ) → n < 16 ^ k → hex_spelled 0 (hex_digits k n) ≡ n
unfolding hex_spelled hex_digits
hex_spelled_lem zero n h = omega arith
hex_spelled_lem (suc k) n h =
    let p = pow-suc 16 k in
    let s = hex_spelled_lem k (n / 16) (omega arith) in
    let d = value_digit (n % 16) (omega arith) in
    spelled-append 0 (hex_digits k (n / 16)) (hex_digit (n % 16) ∷ []) ∙ rw (s, d) (omega arith)

-- the digits of a u64
pub hex_text_spelled : (n : ℕ) → n < 2 ^ 64 → hex_spelled 0 (hex_text n) ≡ n
hex_text_spelled n h = hex_spelled_lem 16 n h

-- ---- the loop that reads digits: from place i on, behind the value so far

pub hex_next : (ds : List ℕ) (i value d : ℕ) → i < length ds → d ≡ hex_value (get_or ds i 0) → hex_spelled value (drop i ds) ≡ hex_spelled (value * 16 + d) (drop (i + 1) ds)
unfolding hex_spelled
hex_next ds i value d h e = rw (add-one, e, drop-cons ds i 0 h)

pub hex_end : (ds : List ℕ) (i value : ℕ) → length ds ≤ i → hex_spelled value (drop i ds) ≡ value
unfolding hex_spelled
hex_end ds i value h = rw (drop_of_length-le ds h)

-- one digit more fits a u64
power : (i : ℕ) → i ≤ 15 → 16 ^ i ≤ 2 ^ 60
power i h = pow-le-pow_right (omega arith) h

pub small_hex : (i value : ℕ) → i < 16 → value < 16 ^ i → value < 2 ^ 60
small_hex i value h g = omega (arith, power i (omega arith))
