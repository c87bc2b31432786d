-- `row_checks::quads::all_quads_stand` meets its contract. The invariant: the sides passed are long enough and the quads passed have good corners, and the turn has its rung and the rung's length.
use mathlib.Core.Path.{◌≡◌}
use mathlib.Core.Bool.{true}
use Prim.Native.Nat.{◌<◌}
use lib.ListN.{get_or}
use Rattle.rules.specs.Checks.{every}
use Rattle.geometry.specs.Rings.{point_at}
use Rattle.geometry.specs.Measures.{side_length}
use Rattle.row_checks.proofs.Sides.{long_enough, corners_good}
use Rattle.row_checks.proofs.quads.all_quads_stand.Given as goal

abbrev pub invariant-loop-i : goal.invariant-loop-i
invariant-loop-i l =
    (every (long_enough l.least l.row.pts.now l.n) l.i ≡ true) × (every (corners_good l.limit l.old.pts.now l.old.nodes.now l.row.pts.now l.n) l.i ≡ true)
    × (l.rung ≡ side_length l.a l.d) × (l.i < l.n → (l.a ≡ point_at l.old.pts.now (get_or l.old.nodes.now l.i 0)) × (l.d ≡ point_at l.row.pts.now l.i))
