-- The theorems on the root hold.
use Rattle.std.proofs.Common.{◌≡◌, ℕ, zero, suc, ◌+◌, ◌*◌, ◌<◌, true, false, T, refl, arith, ltb→lt}
use lib.Ieee.{Float, nan, inf, fin, up, down, lt, round}
use Rattle.float.specs.Helpers.{decimal}
use Rattle.float.specs.Root.{root}
use Rattle.float.specs.RootTheorems.{RootTheorems}
use Rattle.float.proofs.Nearest.{root_nearest, nearest_unique, root_exact}
use Rattle.float.proofs.Order.{root_fits, root_monotone}
use Rattle.float.proofs.Least.{root-lesser}

below_zero_lem : (x : Float) → T (lt x (decimal 0 0)) → root x ≡ nan
unfolding root lt round
below_zero_lem nan h = refl
below_zero_lem (inf true) h = refl
below_zero_lem (inf false) h = absurd h
below_zero_lem (fin true zero e) h = absurd (none (up e) (down e) (ltb→lt 0 (0 * up e * 1 + 0 * down e) h))
  where
    none : (n d : ℕ) → 0 < 0 * n * 1 + 0 * d → ⊥
    none n d h = omega arith
below_zero_lem (fin true (suc m) e) h = refl
below_zero_lem (fin false m e) h = absurd (none (m * up e * 1) (down e) (ltb→lt (m * up e * 1) (0 * down e) h))
  where
    none : (n d : ℕ) → n < 0 * d → ⊥
    none n d h = omega arith

pub root_theorems : RootTheorems
unfolding root
root_theorems = record {
  of_nan = refl;
  below_zero = below_zero_lem;
  of_zero = λ s. refl;
  of_infinity = refl;
  nearest = root_nearest;
  unique = nearest_unique;
  exact = root_exact;
  is_f64 = root_fits;
  monotone = root_monotone;
  of_lesser = root-lesser;
}
