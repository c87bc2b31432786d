-- A candidate row as the code computes it. Definitions only.
use Rattle.std.specs.Prelude.{ℕ, Bool, List, get_or, Float}
use Rattle.geometry.specs.Rings.{point_at, next}
use Rattle.geometry.specs.Measures.{corners_pass}
use Rattle.rules.specs.Checks.{every}

-- the corner test of each of n quads, on the old nodes' points and the new points where they stand (`all_corners_pass`)
abbrev pub corners_between : Float → List Float → List ℕ → List Float → ℕ → Bool
corners_between limit pts old row n =
    every (λ i. corners_pass limit (point_at pts (get_or old i 0)) (point_at pts (get_or old (next n i) 0)) (point_at row (next n i)) (point_at row i)) n
