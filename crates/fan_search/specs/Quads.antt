-- One quad of a fan, as the code reads it. Definitions only.
use Rattle.std.specs.Prelude.{ℕ, ◌+◌, ◌*◌, ◌%◌, List, [], ◌∷◌, ◌++◌, length, get_or, Float}
use Rattle.geometry.specs.declared.Point.{Point}
use Rattle.geometry.specs.Rings.{point_at}
use Rattle.state.specs.State.{Quad, quad}
use Rattle.fan_search.specs.declared.Three.{Three}

-- the points with the centre behind them
abbrev pub with_centre : List Float → Point → List Float
with_centre pts p = pts ++ (p.x ∷ p.y ∷ [])

-- quad k of the front f round the node c, before it is turned, and the points of its three front nodes
abbrev pub plain_quad : List ℕ → ℕ → ℕ → Quad
plain_quad f c k = let n = length f in quad c (get_or f (2 * k % n) 0) (get_or f ((2 * k + 1) % n) 0) (get_or f ((2 * k + 2) % n) 0)

abbrev pub three_at : List Float → List ℕ → ℕ → Three
three_at pts f k =
    let n = length f in
    record { a = point_at pts (get_or f (2 * k % n) 0); b = point_at pts (get_or f ((2 * k + 1) % n) 0); c = point_at pts (get_or f ((2 * k + 2) % n) 0) }
