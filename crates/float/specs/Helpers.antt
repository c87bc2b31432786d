-- The small functions on f64 that the paving uses, as Rust's methods of f64 give them. Definitions only.
use Rattle.std.specs.Prelude.{ℕ, ◌+◌, ◌-◌, ◌*◌, ◌/◌, ◌^◌, min, Bool, true, false, cond, ◌||◌, Float}
use Rattle.std.specs.Float.{nan, inf, fin, binary64}
use Rattle.std.specs.Float.Ieee.{up, down, lt, is_nan, round}

-- the f64 nearest to n / 10 ^ k: how Rust reads a decimal literal
abbrev pub decimal : ℕ → ℕ → Float
decimal n k = round binary64 false n (10 ^ k)

-- `f64::abs`: the sign goes, that of a zero too
unfoldable pub absolute : Float → Float
absolute nan = nan
absolute (inf s) = inf false
absolute (fin s m e) = fin false m e

-- `f64::min`: a NaN yields to the other; of two that compare equal, as the two zeros do, the first
unfoldable pub lesser : Float → Float → Float
unfolding is_nan lt
lesser a b = cond (is_nan a || lt b a) b a

-- `f64::max`, likewise
unfoldable pub greater : Float → Float → Float
unfolding is_nan lt
greater a b = cond (is_nan a || lt a b) b a

-- `f64::clamp(0.0, 1.0)`: a NaN stays one, and a zero keeps its sign
unfoldable pub clamp_unit : Float → Float
unfolding lt round
clamp_unit x = cond (lt x (decimal 0 0)) (decimal 0 0) (cond (lt (decimal 1 0) x) (decimal 1 0) x)

-- `f64::is_finite`
unfoldable pub is_finite : Float → Bool
is_finite nan = false
is_finite (inf s) = false
is_finite (fin s m e) = true

-- `x.round() as usize`, a usize of 64 bits: x + 1/2 cut to a whole number, so a half goes away from zero.
-- A NaN and a negative number give 0, and a number too large gives the largest.
unfoldable pub round_away : Float → ℕ
round_away nan = 0
round_away (inf s) = cond s 0 (2 ^ 64 - 1)
round_away (fin s m e) = cond s 0 (min ((2 * (m * up e) + down e) / (2 * down e)) (2 ^ 64 - 1))
