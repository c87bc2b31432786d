-- All loops sampled (`sample`), and the call. Definitions only.
use Rattle.std.specs.Prelude.{ℕ, ◌+◌, ◌/◌, Bool, true, false, cond, List, [], ◌∷◌, ◌++◌, length, eqb, Float}
use Rattle.geometry.specs.Rings.{Ring}
use Rattle.geometry.specs.Domain.{rings}
use Rattle.state.specs.State.{State, Lengths, nodes, numbered}
use Rattle.state.specs.Outcome.{Outcome, refused, gives}
use Rattle.state.specs.Call.{Left, job_left}
use Rattle.input.specs.Job.{Job, input_number}
use Rattle.planning.specs.Ring.{loop_ring}
use Rattle.planning.specs.Plan.{planned}
use Rattle.placing.specs.Loop.{sample_loop}

abbrev pub empty : State
empty = record { points = []; quads = []; fronts = []; row_quads = 0; core_quads = 0; row_rounds = 0; passes = 0; laid = 0 }

-- a sampled loop's nodes, numbered on from those before; the loop is a front
unfoldable pub with_loop : State → List Float → State
with_loop s out = record {
  points = s.points ++ out;
  quads = s.quads;
  fronts = s.fronts ++ (numbered (nodes s) (length out / 2) ∷ []);
  row_quads = s.row_quads;
  core_quads = s.core_quads;
  row_rounds = s.row_rounds;
  passes = s.passes;
  laid = s.laid;
}

-- the loops in turn, the first of them outer, where `before` nodes were planned for those before
unfoldable pub sample_from : Float → Float → ℕ → Bool → State → List Ring → Outcome State
sample_from h corner_margin before ccw s [] = gives s
sample_from h corner_margin before ccw s (r ∷ rs) =
    elim (sample_loop h corner_margin before ccw r) [
      | refused n ↦ refused n
      | gives out ↦ sample_from h corner_margin (before + planned h corner_margin (loop_ring h ccw r)) false (with_loop s out) rs
    ]

unfoldable pub sampled : Job → Outcome State
sampled j = sample_from j.h j.options.corner_margin 0 true empty (rings j.coords j.loops)

-- a job refused by its input, or what `made` makes of it
unfoldable pub on_job : Job → Lengths → Outcome State → Left
on_job j l made = let n = input_number j l in job_left l (cond (eqb n 0) made (refused n))

-- the call `sample`
unfoldable pub sample_call : Job → Lengths → Left
sample_call j l = on_job j l (sampled j)
