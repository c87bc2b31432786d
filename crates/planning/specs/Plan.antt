-- The plan of a loop: how many inner points each side gets, in the order of the Rust's operations. Definitions only.
use Rattle.std.specs.Prelude.{ℕ, zero, suc, ◌+◌, ◌%◌, max, cond, ◌&&◌, eqb, Float}
use Rattle.std.specs.Float.Ieee.{neg, lt}
use Rattle.float.specs.Helpers.{decimal, greater, round_away}
use Rattle.geometry.specs.F64.{◌⊖◌, ◌⊗◌, ◌⊘◌}
use Rattle.geometry.specs.Rings.{Ring, next}
use Rattle.geometry.specs.Measures.{side_length, sharp_at}

-- the length of side i
abbrev pub side_at : Ring → ℕ → Float
side_at r i = side_length (r.at i) (r.at (next r.size i))

module _ (h corner_margin : Float) (r : Ring) where
  -- what the corner at place i takes from a side that ends there
  unfoldable pub margin : ℕ → Float
  margin i = cond (sharp_at r i) (corner_margin ⊗ h) (decimal 0 0)

  unfoldable pub span : ℕ → Float
  span i = greater (side_at r i ⊖ margin i ⊖ margin (next r.size i)) (decimal 0 0)

  unfoldable pub inner : ℕ → ℕ
  inner i = cond (lt (span i) (decimal 6 1 ⊗ h)) 0 (max 1 (round_away (span i ⊘ h)))

  unfoldable pub inner_sum : ℕ → ℕ
  inner_sum zero = 0
  inner_sum (suc k) = inner_sum k + inner k

  -- the longest of the first k sides with a positive span, the first on a tie, and its length; place 0 and -1 when there is none
  unfoldable pub longest : ℕ → ℕ × Float
  longest zero = (0, neg (decimal 1 0))
  longest (suc k) = let sofar = longest k in cond (lt (decimal 0 0) (span k) && lt sofar.1 (side_at r k)) (k, side_at r k) sofar

  -- nodes plus inner points; an odd number gets one more
  unfoldable pub total : ℕ
  total = r.size + inner_sum r.size

  unfoldable pub planned : ℕ
  planned = total + total % 2

  -- the inner points of side i, the added one too
  unfoldable pub parts : ℕ → ℕ
  parts i = inner i + cond (eqb (total % 2) 1 && eqb i (longest r.size).0) 1 0
