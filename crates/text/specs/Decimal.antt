-- Whole numbers as text, in decimal digits, and the numbers that a field can be. Definitions only.
use Rattle.std.specs.Prelude.{ℕ, zero, suc, ◌+◌, ◌-◌, ◌*◌, ◌/◌, ◌%◌, Bool, true, false, cond, ◌&&◌, List, [], ◌∷◌, ◌++◌, eqb, leb, ltb, ℤ, pos, negsuc}
use Rattle.std.proofs.Math.Option.{Option, none, some}

-- ---- writing

-- the digits of n, the highest first; k is enough when n is below 10 ^ k
unfoldable pub digits : ℕ → ℕ → List ℕ
digits zero n = []
digits (suc k) n = cond (ltb n 10) ((48 + n) ∷ []) (digits k (n / 10) ++ ((48 + n % 10) ∷ []))

-- a u64 has at most 20 digits
abbrev pub decimal_text : ℕ → List ℕ
decimal_text n = digits 20 n

-- a number below zero has a minus sign before its digits
abbrev pub whole_text : ℤ → List ℕ
whole_text (pos n) = decimal_text n
whole_text (negsuc n) = 45 ∷ decimal_text (suc n)

-- ---- reading

-- the number that digits spell behind the number v
unfoldable pub spelled : ℕ → List ℕ → ℕ
spelled v [] = v
spelled v (d ∷ ds) = spelled (v * 10 + (d - 48)) ds

unfoldable pub same_bytes : List ℕ → List ℕ → Bool
same_bytes [] [] = true
same_bytes [] (b ∷ bs) = false
same_bytes (x ∷ xs) [] = false
same_bytes (x ∷ xs) (b ∷ bs) = eqb x b && same_bytes xs bs

-- A field is a number when it is the writing of the number that it spells: no plus, no leading zero, nothing but digits. At most `most`.
unfoldable pub natural_of : ℕ → List ℕ → Option ℕ
natural_of most f = let n = spelled 0 f in cond (same_bytes (decimal_text n) f && leb n most) (some n) none

-- -n for n from 1 on; -0 is no number
abbrev pub negated : Option ℕ → Option ℤ
negated none = none
negated (some zero) = none
negated (some (suc n)) = some (negsuc n)

abbrev pub positive : Option ℕ → Option ℤ
positive none = none
positive (some n) = some (pos n)

-- the same with a minus sign or without, at most `most` in magnitude
unfoldable pub whole_of : ℕ → List ℕ → Option ℤ
whole_of most [] = none
whole_of most (b ∷ bs) = cond (eqb b 45) (negated (natural_of most bs)) (positive (natural_of most (b ∷ bs)))
