-- A planned loop's nodes placed (the second half of `sample_loop`), in the order of the Rust's operations. Definitions only.
use Rattle.std.specs.Prelude.{ℕ, zero, suc, List, [], ◌∷◌, ◌++◌, pos, Float}
use Rattle.std.specs.Float.{binary64}
use Rattle.std.specs.Float.Ieee.{of_int}
use Rattle.float.specs.Helpers.{decimal}
use Rattle.geometry.specs.F64.{◌⊕◌, ◌⊖◌, ◌⊗◌, ◌⊘◌}
use Rattle.geometry.specs.declared.Point.{Point}
use Rattle.geometry.specs.Rings.{Ring, next}
use Rattle.planning.specs.Plan.{side_at, margin, span, parts}

module _ (h corner_margin : Float) (r : Ring) where
  -- the jth inner point of side i, where that side gets k
  unfoldable pub inner_point : ℕ → ℕ → ℕ → Point
  inner_point i k j =
      let a = r.at i in
      let b = r.at (next r.size i) in
      let t = (margin h corner_margin r i ⊕ span h corner_margin r i ⊗ (of_int binary64 (pos j) ⊕ decimal 5 1) ⊘ of_int binary64 (pos k)) ⊘ side_at r i in
      record { x = a.x ⊕ t ⊗ (b.x ⊖ a.x); y = a.y ⊕ t ⊗ (b.y ⊖ a.y) }

  -- the first j inner points of side i, where that side gets k
  unfoldable pub inner_points : ℕ → ℕ → ℕ → List Float
  inner_points i k zero = []
  inner_points i k (suc j) = let p = inner_point i k j in inner_points i k j ++ (p.x ∷ p.y ∷ [])

  -- The nodes of the first k sides: each side's start and its inner points. The Rust gives none to a side of length at most
  -- 1e-12; no side is as short (`LoopsPlaced` of rules), so the rule is left out.
  unfoldable pub placed : ℕ → List Float
  placed zero = []
  placed (suc k) = placed k ++ ((r.at k).x ∷ (r.at k).y ∷ inner_points k (parts h corner_margin r k) (parts h corner_margin r k))
