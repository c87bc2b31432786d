-- One loop sampled (`sample_loop`). Definitions only.
use Rattle.std.specs.Prelude.{ℕ, ◌+◌, Bool, List, [], ◌∷◌, ltb, Float}
use Rattle.geometry.specs.Rings.{Ring}
use Rattle.state.specs.Limits.{front_node_limit}
use Rattle.state.specs.Outcome.{Outcome, first_true, test, outcome}
use Rattle.planning.specs.Ring.{loop_ring}
use Rattle.planning.specs.Plan.{planned}
use Rattle.placing.specs.Placed.{placed}

-- the loop, with the numbers 7 and 10 in this order; `before` nodes were planned for the loops before

unfoldable pub sample_loop : Float → Float → ℕ → Bool → Ring → Outcome (List Float)
sample_loop h corner_margin before ccw given =
    let r = loop_ring h ccw given in
    let number =
    first_true
    (test 7 (ltb r.size 3)
    ∷ test 10 (ltb front_node_limit (before + planned h corner_margin r))
    ∷ []) in
    outcome number (placed h corner_margin r r.size)
