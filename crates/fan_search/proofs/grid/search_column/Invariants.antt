-- `found` is the best of the column's first j points.
use mathlib.Core.Path.{◌≡◌}
use Rattle.geometry.specs.Domain.{rings}
use Rattle.rules.specs.Fan.{search_column}
use Rattle.fan_search.specs.Values.{boxed, centred}
use Rattle.fan_search.proofs.grid.search_column.Given as goal

abbrev pub invariant-loop-j : goal.invariant-loop-j
invariant-loop-j g l =
    centred l.found ≡ search_column (rings l.outline.coords.now l.outline.loop_lengths.now) (g.R.Ring.ring l.front) (boxed l.b) l.i l.j (centred l.initial.found)
