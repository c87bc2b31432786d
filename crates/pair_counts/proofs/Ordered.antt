-- The least and the greatest of two nodes are the lower and the higher.
use Rattle.std.proofs.Common.{◌≡◌, ℕ, ◌≤◌, Bool, true, false, cond, ltb, refl, arith, ltb-true, ltb-false}
use Rattle.std.specs.Prelude.{min, max}
use Rattle.std.proofs.Math.Nat.{min-eq_left, min-eq_right, max-eq_left, max-eq_right}
use Rattle.pair_counts.specs.Sides.{lower, higher}

module _ (a b : ℕ) where
  below : ltb b a ≡ true → b ≤ a
  below e = omega (arith, ltb-true b a e)

  pub lower_is : min a b ≡ lower a b
  unfolding lower
  lower_is = go (ltb b a) refl
    where
      go : (t : Bool) → ltb b a ≡ t → min a b ≡ cond t b a
      go true e = min-eq_right (below e)
      go false e = min-eq_left (ltb-false b a e)

  pub higher_is : max a b ≡ higher a b
  unfolding higher
  higher_is = go (ltb b a) refl
    where
      go : (t : Bool) → ltb b a ≡ t → max a b ≡ cond t a b
      go true e = max-eq_left (below e)
      go false e = max-eq_right (ltb-false b a e)
