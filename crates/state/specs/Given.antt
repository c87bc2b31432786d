-- A state given back to a row, closing or fan call: number 25. Definitions only.
use Rattle.std.specs.Prelude.{ℕ, ◌+◌, ◌*◌, Bool, false, not, ◌||◌, List, [], ◌∷◌, ◌++◌, map, length, take, eqb, leb, ltb}
use Rattle.float.specs.Helpers.{decimal}
use Rattle.geometry.specs.Domain.{sum_of}
use Rattle.state.specs.Limits.{point_limit, quad_limit, front_limit, front_node_limit}
use Rattle.state.specs.State.{State, Held, quad_nodes, joined, nodes, reading}
use Rattle.state.specs.Coordinates.{wrong_coordinate}

-- p holds of some number of a list
unfoldable pub some : (ℕ → Bool) → List ℕ → Bool
some p [] = false
some p (x ∷ xs) = p x || some p xs

-- some number is not below n; some number is below n
abbrev pub some_from : ℕ → List ℕ → Bool
some_from n xs = some (λ x. leb n x) xs

abbrev pub some_below : ℕ → List ℕ → Bool
some_below n xs = some (λ x. ltb x n) xs

unfoldable pub member : ℕ → List ℕ → Bool
member a [] = false
member a (x ∷ xs) = eqb a x || member a xs

unfoldable pub repeated : List ℕ → Bool
repeated [] = false
repeated (x ∷ xs) = member x xs || repeated xs

-- counts pass 4,096 points, 4,096 quads, 16 fronts or 2,048 front nodes; a front has under 3 nodes
unfoldable pub wrong_counts : Held → Bool
wrong_counts b =
    let sizes = take b.counts.fronts b.front_lengths in
    ltb point_limit b.counts.points || ltb quad_limit b.counts.quads || ltb front_limit b.counts.fronts || ltb front_node_limit (sum_of sizes) || some_below 3 sizes

-- a node number is not below the points; a front node is repeated, in one front or two; a coordinate is not finite or over 1,000,000,000;
-- `row_quads` plus `core_quads` isn't the quads; laid exceeds the quads; or six times `row_rounds` exceeds `row_quads`
unfoldable pub wrong_values : State → Bool
wrong_values s =
    some_from (nodes s) (joined (map quad_nodes s.quads) ++ joined s.fronts) || repeated (joined s.fronts) || wrong_coordinate (decimal 1000000000 0) s.points
    || not (eqb (s.row_quads + s.core_quads) (length s.quads)) || ltb (length s.quads) s.laid || ltb s.row_quads (6 * s.row_rounds)

-- number 25
unfoldable pub wrong_state : Held → Bool
wrong_state b = wrong_counts b || wrong_values (reading b)
