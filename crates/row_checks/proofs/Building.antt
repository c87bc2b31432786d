-- The new points, one projection a turn.
use mathlib.Core.Path.{◌≡◌, refl, sym, ◌∙◌, ap}
use mathlib.Core.Bool.{Bool, true, false}
use mathlib.Core.List.{List, [], ◌∷◌, ◌++◌}
use Prim.Native.Nat.{ℕ, ◌+◌, ◌-◌, ◌*◌, ◌≤◌, ◌<◌}
use native.Mathlib.Numerals.{add-one}
use native.Mathlib.Omega.{arith}
use borrow.Author.Tests.{ne_eqb}
use lib.Ieee.{Float}
use lib.ListN.{length, take, set, length-append}
use lib.Seq.{sets}
use lib.Dec.{eqb}
use Rattle.geometry.specs.declared.Point.{Point}
use Rattle.geometry.specs.Rings.{Ring, next, prev}
use Rattle.state.proofs.Stores.{point-behind, front-take}
use Rattle.rules.specs.declared.Projection.{Projection}
use Rattle.rules.specs.declared.Projection.TheVariants.{At, Nothing}
use Rattle.rules.specs.Projecting.{project, projection_number}
use Rattle.rules.specs.Checks.{projection, new_points}
use Rattle.pairs.proofs.Sides.{next_inner}

prev-after : (n i : ℕ) → prev n (i + 1) ≡ i
prev-after n i =
    let e : i + 1 - 1 ≡ i = omega arith in
    rw (ne_eqb (i + 1) 0 (λ z. omega arith)) e

-- the nodes that a turn finds, and hands on to the next
pub handed_on : (r : Ring) (i k : ℕ) (b c : Point) → i < r.size → b ≡ r.at i → c ≡ r.at k → k ≡ next r.size i
    → i + 1 < r.size → (b ≡ r.at (prev r.size (i + 1))) × (c ≡ r.at (i + 1))
handed_on r i k b c l hb hc hk m =
    (hb ∙ ap r.at (sym (prev-after r.size i)), hc ∙ ap r.at (next_inner r.size i l hk m))

module _ (r : Ring) (h : Float) where
  abbrev pub projects : ℕ → Bool
  projects i = eqb (projection_number (projection r h i)) 0

  -- a projection as a turn computes it
  pub projected_at : (i k : ℕ) (a b c : Point) (p : Projection) → p ≡ project a b c h → (a ≡ r.at (prev r.size i)) × (b ≡ r.at i) → c ≡ r.at k
      → k ≡ next r.size i → p ≡ projection r h i
  projected_at i k a b c p hp w hc hk = rw (hp, w.0, w.1, hc, hk)

  pub fails : (i : ℕ) (p : Projection) → p ≡ projection r h i → p ≡ Nothing → projects i ≡ false
  fails i p e f = rw (← e, f)

  pub passes : (i : ℕ) (p : Projection) (x y : Float) → p ≡ projection r h i → p ≡ At x y → projects i ≡ true
  passes i p x y e f = rw (← e, f)

  pub points_more : (i : ℕ) (p : Projection) (x y : Float) → p ≡ projection r h i → p ≡ At x y → new_points r h (i + 1) ≡ new_points r h i ++ (x ∷ y ∷ [])
  unfolding new_points
  points_more i p x y e f = rw (add-one, ← e, f)

  pub length_more : (i : ℕ) (x y : Float) → length (new_points r h i) ≡ i * 2 → new_points r h (i + 1) ≡ new_points r h i ++ (x ∷ y ∷ []) → length (new_points r h (i + 1)) ≡ (i + 1) * 2
  length_more i x y l e = ap length e ∙ length-append (new_points r h i) (x ∷ y ∷ []) ∙ omega arith

  pub row_more : (i : ℕ) (x y : Float) (d row row' : List Float) → row ≡ sets d 0 (new_points r h i) → length (new_points r h i) ≡ i * 2
      → new_points r h (i + 1) ≡ new_points r h i ++ (x ∷ y ∷ []) → row' ≡ set (set row (i * 2) x) (i * 2 + 1) y → row' ≡ sets d 0 (new_points r h (i + 1))
  row_more i x y d row row' e l g s =
      let k : i * 2 ≡ 0 + length (new_points r h i) = omega arith in
      s ∙ point-behind d (new_points r h i) row 0 (i * 2) x y e k ∙ ap (λ q. sets d 0 q) (sym g)

  pub row_done : (n : ℕ) (d row : List Float) → row ≡ sets d 0 (new_points r h n) → length (new_points r h n) ≡ n * 2 → n * 2 ≤ length d → take (n * 2) row ≡ new_points r h n
  row_done n d row e l f = rw (e, ← l) (front-take d (new_points r h n) (rw l f))

  pub none_yet : new_points r h 0 ≡ []
  unfolding new_points
  none_yet = refl
