-- `geometry::outline::Outline::distance_to_boundary` meets its contract. The invariant: the rings ahead, from `least` on, give the whole.
use mathlib.Core.Path.{◌≡◌}
use mathlib.Core.Bool.{false}
use Prim.Native.Nat.{◌*◌, ◌≤◌}
use lib.ListN.{length, drop}
use lib.Ieee.{inf}
use Rattle.geometry.specs.Domain.{rings, sum_of}
use Rattle.geometry.specs.Squares.{least_from}
use Rattle.geometry.proofs.outline.Outline.distance_to_boundary.Given as goal

abbrev pub invariant-loop-n : goal.invariant-loop-n
invariant-loop-n l =
    (sum_of (drop l.n-index l.self.loop_lengths.now) * 2 ≤ length l.ahead)
    × (least_from l.p (inf false) (rings l.self.coords.now l.self.loop_lengths.now) ≡ least_from l.p l.least (rings l.ahead (drop l.n-index l.self.loop_lengths.now)))
