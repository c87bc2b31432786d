-- `geometry::rings::front_length` meets its contract. The invariant: `sum` is the definition's after i sides.
use mathlib.Core.Path.{◌≡◌}
use Rattle.geometry.specs.Measures.{length_sum}
use Rattle.geometry.proofs.rings.front_length.Given as goal

abbrev pub invariant-loop-i : goal.invariant-loop-i
invariant-loop-i g l = l.sum ≡ length_sum (g.R.Ring.ring l.ring) l.i
