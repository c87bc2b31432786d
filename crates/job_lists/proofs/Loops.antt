-- The sampled loops in the place of a state's fronts: number 25 finds nothing.
use mathlib.Core.Path.{◌≡◌, refl, sym, ◌∙◌, ap}
use mathlib.Core.Bool.{Bool, true, false, not, cond, ◌||◌}
use mathlib.Core.List.{List, [], ◌∷◌, ◌++◌, map}
use Prim.Native.Nat.{ℕ, zero, suc, ◌+◌, ◌-◌, ◌*◌, ◌≤◌, ◌<◌}
use native.Mathlib.Omega.{arith}
use borrow.Author.Tests.{le-ltb, eq-eqb}
use lib.Dec.{eqb, ltb}
use lib.ListN.{length, take, replicate, length-map}
use lib.Seq.{take_at}
use lib.Ieee.{Float}
use Rattle.float.specs.Helpers.{decimal}
use Rattle.geometry.specs.Rings.{Ring}
use Rattle.geometry.specs.Domain.{sum_of, rings}
use Rattle.state.specs.Limits.{point_limit, quad_limit, front_limit, front_node_limit}
use Rattle.state.specs.State.{State, quad_nodes, joined, nodes, written, reading}
use Rattle.state.specs.Given.{some_from, some_below, repeated, wrong_counts, wrong_values, wrong_state}
use Rattle.state.specs.Coordinates.{wrong_coordinate}
use Rattle.state.specs.Outcome.{Outcome, refused, gives}
use Rattle.state.proofs.Basics.{or_no}
use Rattle.state.proofs.Outcomes.{gives_same, not_both}
use Rattle.state.proofs.Written.{reading-written}
use Rattle.state.proofs.Fitting.{total_lengths}
use Rattle.state.proofs.Repeating.{from_both}
use Rattle.input.specs.Job.{Job}
use Rattle.planning.specs.Ring.{loop_ring}
use Rattle.planning.specs.Plan.{planned}
use Rattle.placing.specs.Loop.{sample_loop}
use Rattle.sampling.specs.Sample.{empty, with_loop, sample_from, sampled}
use Rattle.rules.proofs.Allowed.{too_short}
use Rattle.tile_text.specs.TileList.{with_fronts}
use Rattle.tile_text.proofs.Allowing.{Fair}

module _ (s : State) (even : length s.points ≡ nodes s * 2) (fair : Fair s) (loops : List (List ℕ)) (few : length loops ≤ front_limit) (total : length (joined loops) ≤ front_node_limit)
    (three : too_short loops ≡ false) (below : some_from (nodes s) (joined loops) ≡ false) (once : repeated (joined loops) ≡ false) where
  abbrev o : State
  o = with_fronts loops s

  counts_right : wrong_counts (written o) ≡ false
  unfolding wrong_counts written
  counts_right =
      rw (
        take_at (map length loops) (replicate (front_limit - length (map length loops)) 0) (length loops) (length-map loops length),
        total_lengths loops,
        le-ltb point_limit (nodes s) fair.points,
        le-ltb quad_limit (length s.quads) fair.quads,
        le-ltb front_limit (length loops) few,
        le-ltb front_node_limit (length (joined loops)) total,
      )
      three

  values_right : wrong_values o ≡ false
  unfolding wrong_values
  values_right =
      rw (
        from_both (nodes s) (joined (map quad_nodes s.quads)) (joined loops),
        fair.quads_below,
        below,
        once,
        fair.coordinates,
        eq-eqb (s.row_quads + s.core_quads) (length s.quads) fair.sums,
        le-ltb (length s.quads) s.laid fair.laid,
        le-ltb s.row_quads (6 * s.row_rounds) fair.rounds,
      )

  pub loops_right : wrong_state (written o) ≡ false
  unfolding wrong_state
  loops_right = rw (counts_right, reading-written o (omega arith)) values_right

-- ---- sampling begins no pass

from_none : (h m : Float) (before : ℕ) (ccw : Bool) (s : State) (rs : List Ring) (t : State) → sample_from h m before ccw s rs ≡ gives t → t.passes ≡ s.passes
unfolding sample_from with_loop
from_none h m before ccw s [] t e = ap (λ (u : State). u.passes) (sym (gives_same e))
from_none h m before ccw s (r ∷ rs) t e = go (sample_loop h m before ccw r) refl (λ out d. from_none h m (before + planned h m (loop_ring h ccw r)) false (with_loop s out) rs t d)
  where
    go : (x : Outcome (List Float)) → sample_loop h m before ccw r ≡ x
        → ((out : List Float) → sample_from h m (before + planned h m (loop_ring h ccw r)) false (with_loop s out) rs ≡ gives t → t.passes ≡ s.passes)
        → t.passes ≡ s.passes
    go (refused k) d rest = absurd (not_both (rw (d, sample_from) at e))
    go (gives out) d rest = rest out (rw (d, sample_from) at e)

pub sampled_none : (j : Job) (s : State) → sampled j ≡ gives s → s.passes ≡ 0
unfolding sampled
sampled_none j s e = from_none j.h j.options.corner_margin 0 true empty (rings j.coords j.loops) s e
