-- `row_checks::far::far_side` meets its contract. The invariant: what was found of the points passed.
use mathlib.Core.Path.{◌≡◌}
use lib.Ieee.{le}
use Rattle.geometry.specs.Rings.{point_at}
use Rattle.rules.specs.Checks.{every}
use Rattle.row_checks.proofs.FarClear.{foot_square}
use Rattle.row_checks.proofs.far.far_side.Given as goal

abbrev pub invariant-loop-i : goal.invariant-loop-i
invariant-loop-i l = l.far ≡ every (λ k. le l.bound (foot_square l.a (record { x = l.abx; y = l.aby }) l.length2 (point_at l.row.pts.now k))) l.i
