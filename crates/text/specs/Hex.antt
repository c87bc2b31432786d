-- The bits of an f64 as text: 16 hexadecimal digits, in upper case; and what digits spell. Definitions only.
use Rattle.std.specs.Prelude.{ℕ, zero, suc, ◌+◌, ◌-◌, ◌*◌, ◌/◌, ◌%◌, cond, List, [], ◌∷◌, ◌++◌, ltb, Float}
use Rattle.std.specs.Float.{binary64}
use Rattle.std.specs.Float.Ieee.{to_bits}

-- `0` to `9`, then `A` to `F`
abbrev pub hex_digit : ℕ → ℕ
hex_digit d = cond (ltb d 10) (48 + d) (55 + d)

-- the last k digits of n, the highest first
unfoldable pub hex_digits : ℕ → ℕ → List ℕ
hex_digits zero n = []
hex_digits (suc k) n = hex_digits k (n / 16) ++ (hex_digit (n % 16) ∷ [])

abbrev pub hex_text : ℕ → List ℕ
hex_text n = hex_digits 16 n

abbrev pub bits_text : Float → List ℕ
bits_text x = hex_text (to_bits binary64 x)

-- ---- reading

-- the value of a digit; another byte has some value below 16 too, and is found out by writing the number again
abbrev pub hex_value : ℕ → ℕ
hex_value d = cond (ltb d 58) (d - 48) (cond (ltb d 71) (d - 55) 0)

-- the number that digits spell behind the number v
unfoldable pub hex_spelled : ℕ → List ℕ → ℕ
hex_spelled v [] = v
hex_spelled v (d ∷ ds) = hex_spelled (v * 16 + hex_value d) ds
