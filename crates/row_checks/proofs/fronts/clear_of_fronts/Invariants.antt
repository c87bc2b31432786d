-- `row_checks::fronts::clear_of_fronts` meets its contract. The invariant: `start` is where the next front stands, and the fronts passed are clear.
use mathlib.Core.Path.{◌≡◌}
use mathlib.Core.Bool.{true, ◌||◌}
use mathlib.Core.List.{[]}
use lib.Dec.{eqb}
use lib.ListN.{take, get_or}
use Rattle.geometry.specs.Domain.{sum_of}
use Rattle.state.specs.State.{cut}
use Rattle.rules.specs.Checks.{every, all_clear_of}
use Rattle.row_checks.proofs.fronts.clear_of_fronts.Given as goal

abbrev pub invariant-loop-other : goal.invariant-loop-other
invariant-loop-other l =
    (l.start ≡ sum_of (take l.other l.fronts.lengths.now))
    × (every (λ k. eqb k l.li || all_clear_of l.fronts.points.now (get_or (cut l.fronts.lengths.now l.fronts.nodes.now) k []) l.least l.row.pts.now l.row.n) l.other ≡ true)
