-- The number that a fan gives. Definitions only.
use Rattle.std.specs.Prelude.{ℕ, ◌+◌, ◌/◌, ◌%◌, not, ◌||◌, List, [], ◌∷◌, length, get_or, eqb, ltb, Float}
use Rattle.std.specs.Float.Ieee.{le}
use Rattle.float.specs.Helpers.{decimal, is_finite}
use Rattle.geometry.specs.Rings.{Ring, node_ring}
use Rattle.state.specs.Limits.{point_limit, quad_limit}
use Rattle.state.specs.State.{quad}
use Rattle.state.specs.Outcome.{first_true, test}
use Rattle.rules.specs.Checks.{every, quad_passes}
use Rattle.rules.specs.Fan.{centre, fan_quads}
use Rattle.fan_search.specs.Quads.{with_centre}

-- the tests of `fanned`, on a front f of the points pts, where `quads` quads are laid
unfoldable pub fan_number : Float → List Ring → List Float → List ℕ → ℕ → ℕ
fan_number limit outline pts f quads =
    let n = length f in
    let c = centre outline (node_ring pts f) in
    let all = with_centre pts c.point in
    first_true
    (test 24 (ltb n 4 || eqb (n % 2) 1)
    ∷ test 26 (not (is_finite c.clearance) || le c.clearance (decimal 0 0))
    ∷ test 21 (ltb point_limit (length pts / 2 + 1) || ltb quad_limit (quads + n / 2))
    ∷ test 27 (not (every (λ i. quad_passes limit all (get_or (fan_quads all f (length pts / 2) (n / 2)) i (quad 0 0 0 0))) (n / 2)))
    ∷ [])
