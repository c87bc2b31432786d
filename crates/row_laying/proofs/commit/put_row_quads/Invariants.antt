-- `row_laying::commit::put_row_quads` meets its contract. The invariant: i of the row's quads are written.
use mathlib.Core.Path.{◌≡◌}
use lib.ListN.{length}
use lib.Seq.{sets}
use mathlib.Core.List.{map}
use Rattle.state.specs.State.{quad_nodes, joined}
use Rattle.rules.specs.Checks.{row_quads}
use Rattle.row_laying.proofs.commit.put_row_quads.Given as goal

abbrev pub invariant-loop-i : goal.invariant-loop-i
invariant-loop-i l = (length l.quads ≡ length l.initial.quads) × (l.quads ≡ sets l.initial.quads l.at (joined (map quad_nodes (row_quads l.old l.first l.i))))
