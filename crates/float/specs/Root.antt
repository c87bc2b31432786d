-- The square root of an f64: the f64 nearest to the exact root (IEEE 754), over whole numbers. Definitions only; RootTheorems.antt states that it is the nearest.
use Rattle.std.specs.Prelude.{ℕ, zero, suc, ◌+◌, ◌*◌, ◌/◌, ◌^◌, true, false, cond, ◌==◌, nat_le, Float}
use Rattle.std.specs.Float.{nan, inf, fin, binary64}
use Rattle.std.specs.Float.Ieee.{up, down, size, round}

-- The largest number whose square is at most n, for an n below 4 ^ k: one binary digit more for each further digit of n to the base 4.
unfoldable pub whole_root : ℕ → ℕ → ℕ
whole_root zero n = 0
whole_root (suc k) n = let r = 2 * whole_root k (n / 4) in cond (nat_le ((r + 1) * (r + 1)) n) (r + 1) r

-- Twice the root of n, which lies between 2 * whole_root k n and that number and 2. Where the root is not whole, the odd number between stands for it:
-- both lie on the same side of every even number, and so of every f64 and of every midpoint between two.
unfoldable pub twice_root : ℕ → ℕ → ℕ
unfolding whole_root
twice_root k n = let q = whole_root k n in 2 * q + cond (q * q == n) 0 1

-- The f64 nearest to the root of n units of the smallest f64, 4 ^ -537. Of n's digits to the base 4 there are j. Moved to 54 such digits,
-- which loses nothing where n has 53 binary digits and zeros behind them, its root has 54 binary digits, one more than an f64 keeps.
unfoldable pub root_of_units : ℕ → Float
unfolding twice_root size round
root_of_units n =
    let j = (size n + 1) / 2 in
    round binary64 false (twice_root 54 (n * 4 ^ 54 / 4 ^ j) * 2 ^ j) (2 ^ (1 + 54 + 537))

-- `f64::sqrt`: a zero is its own root, and what is below 0 has none
unfoldable pub root : Float → Float
unfolding root_of_units
root nan = nan
root (inf true) = nan
root (inf false) = inf false
root (fin s zero e) = fin s zero e
root (fin true (suc m) e) = nan
root (fin false (suc m) e) = root_of_units (suc m * up e * 2 ^ 1074 / down e)
