-- `row_checks::trial::project_row` meets its contract. The invariant: the nodes passed project, their points stand at the front of the row, and the turn has the node before, its own and the length of the side between.
use mathlib.Core.Path.{◌≡◌}
use mathlib.Core.Bool.{true}
use Prim.Native.Nat.{◌<◌, ◌*◌}
use lib.ListN.{length}
use lib.Seq.{sets}
use Rattle.geometry.specs.Rings.{prev}
use Rattle.geometry.specs.Measures.{side_length}
use Rattle.rules.specs.Checks.{every, new_points}
use Rattle.row_checks.proofs.Building.{projects}
use Rattle.row_checks.proofs.trial.project_row.Given as goal

abbrev pub invariant-loop-i : goal.invariant-loop-i
invariant-loop-i g l =
    (every (projects (g.R.Ring.ring l.ring) l.h) l.i ≡ true)
    × (length (new_points (g.R.Ring.ring l.ring) l.h l.i) ≡ l.i * 2)
    × (length l.row ≡ length l.initial.row)
    × (l.row ≡ sets l.initial.row 0 (new_points (g.R.Ring.ring l.ring) l.h l.i))
    × (l.l1 ≡ side_length l.a l.b)
    × (l.i < l.n → (l.a ≡ (g.R.Ring.ring l.ring).at (prev l.n l.i)) × (l.b ≡ (g.R.Ring.ring l.ring).at l.i))
