-- `found` is the best of the first i columns.
use mathlib.Core.Path.{◌≡◌}
use Rattle.geometry.specs.Domain.{rings}
use Rattle.rules.specs.Fan.{search_grid}
use Rattle.fan_search.specs.Values.{boxed, centred}
use Rattle.fan_search.proofs.grid.search_grid.Given as goal

abbrev pub invariant-loop-i : goal.invariant-loop-i
invariant-loop-i g l =
    centred l.found ≡ search_grid (rings l.outline.coords.now l.outline.loop_lengths.now) (g.R.Ring.ring l.front) (boxed l.b) l.i (centred l.initial.found)
