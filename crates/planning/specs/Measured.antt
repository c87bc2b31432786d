-- What the lists of a ring's measured sides hold. Definitions only.
use Rattle.std.specs.Prelude.{ℕ, ◌<◌, ◌≡◌, List, get_or, Float}
use Rattle.std.specs.Float.{nan}
use Rattle.geometry.specs.Rings.{Ring}
use Rattle.planning.specs.Plan.{margin, side_at}

-- the lengths of the n sides of a ring, and the margins at its corners
pub record Measured (h corner_margin : Float) (r : Ring) (n : ℕ) (lengths margins : List Float) : Type 0 where
  pub size_is : n ≡ r.size
  pub lengths_are : (i : ℕ) → i < n → get_or lengths i nan ≡ side_at r i
  pub margins_are : (i : ℕ) → i < n → get_or margins i nan ≡ margin h corner_margin r i
