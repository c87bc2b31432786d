-- Whether a ring is simple (`loop_is_simple`): a search of the pairs of sides that ends at the first crossing. Definitions only.
use Rattle.std.specs.Prelude.{ℕ, zero, suc, ◌+◌, ◌-◌, Bool, false, not, cond, ◌&&◌, ◌||◌, eqb, leb}
use Rattle.geometry.specs.Rings.{Ring, next}
use Rattle.geometry.specs.Measures.{segments_cross}

-- how far the search is: whether a crossing was found, and how many pairs of sides were tested
pub record Search : Type 0 where
  pub crossed : Bool
  pub tested : ℕ

-- neighbouring sides are not tested
abbrev pub neighbours : ℕ → ℕ → ℕ → Bool
neighbours n i j = eqb (next n j) i || eqb (next n i) j

abbrev pub sides_cross : Ring → ℕ → ℕ → Bool
sides_cross r i j = segments_cross (r.at i) (r.at (next r.size i)) (r.at j) (r.at (next r.size j))

-- the pair of sides i and j, unless the search has ended
unfoldable pub test_pair : Ring → ℕ → ℕ → Search → Search
test_pair r i j s = cond (s.crossed || neighbours r.size i j) s (record { crossed = sides_cross r i j; tested = s.tested + 1 })

-- side i with the k sides after it
unfoldable pub search_side : Ring → ℕ → ℕ → Search → Search
search_side r i zero s = s
search_side r i (suc k) s = test_pair r i (i + 1 + k) (search_side r i k s)

-- the first m sides, each with all the sides after it
unfoldable pub search : Ring → ℕ → Search
search r zero = record { crossed = false; tested = 0 }
search r (suc m) = search_side r m (r.size - 1 - m) (search r m)

unfoldable pub is_simple : Ring → Bool
is_simple r = leb 3 r.size && not (search r r.size).crossed
