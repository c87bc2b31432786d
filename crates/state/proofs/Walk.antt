-- Loops that walk a list from the front: what the rest of the list gives, one place a turn.
use mathlib.Core.Path.{◌≡◌, refl, ◌∙◌}
use mathlib.Core.Bool.{Bool, true, false, not, ◌||◌}
use mathlib.Core.List.{List}
use Prim.Native.Nat.{ℕ, ◌+◌, ◌<◌, ◌≤◌}
use native.Mathlib.Nat.{add_assoc}
use native.Mathlib.Numerals.{add-one}
use lib.ListN.{length, get_or, drop, drop_of_length-le}
use lib.Seq.{drop-cons}
use lib.Ieee.{Float, lt}
use Rattle.float.specs.Helpers.{absolute, is_finite}
use Rattle.geometry.specs.Domain.{sum_of}
use Rattle.state.specs.Coordinates.{wrong_coordinate}

-- ---- the sum of the loop lengths

pub total_step : (l : List ℕ) (i sum n : ℕ) → sum + sum_of (drop i l) ≡ sum_of l → n ≡ get_or l i 0 → i < length l → sum + n + sum_of (drop (i + 1) l) ≡ sum_of l
unfolding sum_of
total_step l i sum n e h k = add_assoc sum n (sum_of (drop (i + 1) l)) ∙ rw (h, add-one) (rw (drop-cons l i 0 k) at e)

pub total_end : (l : List ℕ) (i sum : ℕ) → sum + sum_of (drop i l) ≡ sum_of l → length l ≤ i → sum + 0 ≡ sum_of l
unfolding sum_of
total_end l i sum e h = rw (drop_of_length-le l h) at e

-- ---- the coordinates

module _ (limit : Float) where
  split : (l : List Float) (i : ℕ) (d : Float) → i < length l → wrong_coordinate limit (drop i l) ≡ (not (is_finite (get_or l i d)) || lt limit (absolute (get_or l i d)) || wrong_coordinate limit (drop (i + 1) l))
  unfolding wrong_coordinate
  split l i d h = rw (add-one, drop-cons l i d h)

  pub one_more : (l : List Float) (i : ℕ) (d : Float) (wrong b : Bool) → (wrong || wrong_coordinate limit (drop i l)) ≡ wrong_coordinate limit l → i < length l
      → b ≡ (not (is_finite (get_or l i d)) || lt limit (absolute (get_or l i d))) → (wrong || b || wrong_coordinate limit (drop (i + 1) l)) ≡ wrong_coordinate limit l
  one_more l i d wrong b e h p = go wrong ∙ rw (split l i d h, ← p) at e
    where
      go : (w : Bool) → (w || b || wrong_coordinate limit (drop (i + 1) l)) ≡ (w || (b || wrong_coordinate limit (drop (i + 1) l)))
      go true = refl
      go false = refl

  pub none_left : (l : List Float) (i : ℕ) (wrong : Bool) → (wrong || wrong_coordinate limit (drop i l)) ≡ wrong_coordinate limit l → length l ≤ i → wrong ≡ wrong_coordinate limit l
  unfolding wrong_coordinate
  none_left l i wrong e h = go wrong ∙ rw (drop_of_length-le l h) at e
    where
      go : (w : Bool) → w ≡ (w || false)
      go true = refl
      go false = refl
