-- The cases of a projection, from the tests that the code makes one after the other.
use mathlib.Core.Path.{◌≡◌}
use mathlib.Core.Bool.{true, false, cond, ◌&&◌}
use lib.Ieee.{Float, neg, lt}
use Rattle.float.specs.Helpers.{decimal, lesser}
use Rattle.float.specs.Root.{root}
use Rattle.geometry.specs.F64.{◌⊕◌, ◌⊖◌, ◌⊗◌, ◌⊘◌}
use Rattle.geometry.specs.declared.Point.{Point}
use Rattle.geometry.specs.Measures.{side_length, sharp_turn}
use Rattle.rules.specs.declared.Projection.TheVariants.{At, Nothing}
use Rattle.rules.specs.Projecting.{project}

module _ (before here after : Point) (h l1 l2 : Float) (e1 : l1 ≡ side_length before here) (e2 : l2 ≡ side_length here after) where
  abbrev x1 : Float
  x1 = (here.x ⊖ before.x) ⊘ l1

  abbrev y1 : Float
  y1 = (here.y ⊖ before.y) ⊘ l1

  abbrev x2 : Float
  x2 = (after.x ⊖ here.x) ⊘ l2

  abbrev y2 : Float
  y2 = (after.y ⊖ here.y) ⊘ l2

  abbrev bis_x : Float
  bis_x = neg y1 ⊕ neg y2

  abbrev bis_y : Float
  bis_y = x1 ⊕ x2

  pub short_before : lt l1 (decimal 1 12) ≡ true → Nothing ≡ project before here after h
  unfolding project
  short_before t1 = rw (← e1, t1)

  module _ (t1 : lt l1 (decimal 1 12) ≡ false) where
    pub short_after : lt l2 (decimal 1 12) ≡ true → Nothing ≡ project before here after h
    unfolding project
    short_after t2 = rw (← e1, ← e2, t1, t2)

    module _ (t2 : lt l2 (decimal 1 12) ≡ false) (b : Float) (eb : b ≡ root (bis_x ⊗ bis_x ⊕ bis_y ⊗ bis_y)) where
      pub no_bisector : lt b (decimal 1 9) ≡ true → Nothing ≡ project before here after h
      unfolding project
      no_bisector t3 = rw (← e1, ← e2, ← eb, t1, t2, t3)

      pub too_acute : lt b (decimal 1 9) ≡ false → lt (b ⊘ decimal 2 0) (decimal 2 1) ≡ true → Nothing ≡ project before here after h
      unfolding project
      too_acute t3 t4 = rw (← e1, ← e2, ← eb, t1, t2, t3, t4)

      pub projected : (more distance : Float) → lt b (decimal 1 9) ≡ false → lt (b ⊘ decimal 2 0) (decimal 2 1) ≡ false
          → more ≡ cond (lt (decimal 0 0) (x1 ⊗ y2 ⊖ y1 ⊗ x2) && sharp_turn (x1 ⊗ y2 ⊖ y1 ⊗ x2) (x1 ⊗ x2 ⊕ y1 ⊗ y2)) (decimal 25 2 ⊗ h) (decimal 0 0)
          → distance ≡ lesser (h ⊘ (b ⊘ decimal 2 0) ⊕ more) (decimal 3 0 ⊗ h)
          → At (here.x ⊕ bis_x ⊘ b ⊗ distance) (here.y ⊕ bis_y ⊘ b ⊗ distance) ≡ project before here after h
      unfolding project
      projected more distance t3 t4 em ed = rw (← e1, ← e2, ← eb, t1, t2, t3, t4, ← em, ← ed)
