-- `planning::plan::plan_measured` meets its contract. The invariant: the first i sides are planned, and the margins of the corners from place i on stand in the spans.
use mathlib.Core.Path.{◌≡◌}
use Prim.Native.Nat.{ℕ, ◌≤◌, ◌<◌}
use lib.Ieee.{Float, nan}
use lib.ListN.{get_or}
use Rattle.geometry.specs.Rings.{Ring}
use Rattle.planning.specs.Measured.{Measured}
use Rattle.planning.proofs.Planning.{Sofar}
use Rattle.planning.proofs.plan.plan_measured.Given as goal

abbrev pub invariant-loop-i : goal.invariant-loop-i
invariant-loop-i l =
    (l.sum ≤ 2049)
    × ((k : ℕ) → l.i ≤ k → k < l.n → get_or l.spans k nan ≡ get_or l.initial.spans k nan)
    × ((corner_margin : Float) (r : Ring) → Measured l.h corner_margin r l.n l.lengths l.initial.spans → Sofar l.h corner_margin r l.n l.i l.sum l.best.side l.best.length l.start l.spans)
