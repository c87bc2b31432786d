-- What is proved of the square root of an f64, over whole numbers and without reals. Statements only; proofs/Theorems.antt proves them.
-- A finite f64 is, but for its sign, the fraction num / den of two whole numbers, so each comparison of squares below is one of whole numbers, cross-multiplied.
use Rattle.std.specs.Prelude.{◌≡◌, ◌+◌, ◌*◌, ◌<◌, Bool, true, false, not, T, pos, Float}
use Rattle.std.specs.Float.{nan, inf, fin, binary64}
use Rattle.std.specs.Float.Ieee.{fits, lt, le}
use Rattle.std.specs.Float.Ieee.Positive.{num, den, positive}
use Rattle.float.specs.Helpers.{decimal, lesser}
use Rattle.float.specs.Root.{root}

-- x is an f64. Each f64 is written in one way, so two that are equal as data are the same number with the same sign.
abbrev pub F64 : Float → Type 0
F64 x = T (fits binary64 x)

-- finite, with the sign clear: +0, or above 0, which alone is `positive`
abbrev pub unsigned : Float → Bool
unsigned nan = false
unsigned (inf s) = false
unsigned (fin s m e) = not s

-- a NaN, or with the sign clear: +0, what is above 0, the positive infinity
abbrev pub clear : Float → Bool
clear nan = true
clear (inf s) = not s
clear (fin s m e) = not s

-- r ^ 2 = x
abbrev pub SquareIs : Float → Float → Type 0
SquareIs r x = num r * num r * den x ≡ num x * (den r * den r)

-- ((y + r) / 2) ^ 2 < x
abbrev pub MidpointUnder : Float → Float → Float → Type 0
MidpointUnder y r x = (num y * den r + num r * den y) * (num y * den r + num r * den y) * den x < num x * (2 * (den y * den r) * (2 * (den y * den r)))

-- x < ((y + r) / 2) ^ 2
abbrev pub MidpointOver : Float → Float → Float → Type 0
MidpointOver y r x = num x * (2 * (den y * den r) * (2 * (den y * den r))) < (num y * den r + num r * den y) * (num y * den r + num r * den y) * den x

-- r is the f64 nearest to the exact root of x, and no other is as near. Where y < r, the exact root is nearer to r than to y if it lies above the midpoint of the two,
-- that is, if the midpoint's square is less than x; where r < y, if that is more than x. So it is for every y that is +0 or above, both neighbours of r among them;
-- what is below 0 is farther off than +0.
pub record Nearest (x r : Float) : Type 0 where
  pub is_f64 : F64 r
  pub above_zero : T (positive r)
  pub under : (y : Float) → F64 y → T (unsigned y) → T (lt y r) → MidpointUnder y r x
  pub over : (y : Float) → F64 y → T (unsigned y) → T (lt r y) → MidpointOver y r x

pub record RootTheorems : Type 0 where
  -- a NaN stays one, and what is below 0 has no root, the negative infinity included
  pub of_nan : root nan ≡ nan
  pub below_zero : (x : Float) → T (lt x (decimal 0 0)) → root x ≡ nan
  -- each of the two zeros, and the positive infinity, is its own root
  pub of_zero : (s : Bool) → root (fin s 0 (pos 0)) ≡ fin s 0 (pos 0)
  pub of_infinity : root (inf false) ≡ inf false
  -- every other f64 is finite and above 0: its root is the nearest f64. The midpoints are passed strictly, so no tie arises.
  pub nearest : (x : Float) → F64 x → T (positive x) → Nearest x (root x)
  -- there is no other nearest one: an f64 that is one unit off is not
  pub unique : (x r q : Float) → Nearest x r → Nearest x q → r ≡ q
  -- where the exact root is an f64, the root is that one
  pub exact : (x r : Float) → F64 x → T (positive x) → F64 r → T (positive r) → SquareIs r x → root x ≡ r
  -- the root of an f64 is one
  pub is_f64 : (x : Float) → F64 x → F64 (root x)
  -- from the zeros up to the infinity, the root keeps the order
  pub monotone : (x y : Float) → F64 x → F64 y → T (le (decimal 0 0) x) → T (le x y) → T (le (root x) (root y))
  -- of two that are NaNs or have the sign clear, the root of the lesser is the lesser of the roots
  pub of_lesser : (a b : Float) → F64 a → F64 b → T (clear a) → T (clear b) → root (lesser a b) ≡ lesser (root a) (root b)
