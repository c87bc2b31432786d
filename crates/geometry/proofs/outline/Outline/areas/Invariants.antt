-- `geometry::outline::Outline::holes_area` meets its contract. The invariant: the rings ahead, from `sum` on, give the whole.
use mathlib.Core.Path.{◌≡◌}
use Prim.Native.Nat.{◌*◌, ◌≤◌}
use lib.ListN.{length, drop}
use lib.Ieee.{neg}
use Rattle.float.specs.Helpers.{decimal}
use Rattle.geometry.specs.Domain.{holes_area, rings, sum_of}
use Rattle.geometry.proofs.outline.Outline.areas.Given as goal

abbrev pub invariant-loop-n : goal.invariant-loop-n
invariant-loop-n l =
    (sum_of (drop l.n-index l.self.loop_lengths.now) * 2 ≤ length l.ahead)
    × (holes_area (neg (decimal 0 0)) (rings l.self.coords.now l.self.loop_lengths.now) ≡ holes_area l.sum (rings l.ahead (drop l.n-index l.self.loop_lengths.now)))
