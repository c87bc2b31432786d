-- `geometry::outline::Outline::in_some` meets its contract. The invariant: `p` is in none of the rings passed.
use mathlib.Core.Path.{◌≡◌}
use Prim.Native.Nat.{◌*◌, ◌≤◌}
use lib.ListN.{length, drop}
use Rattle.geometry.specs.Domain.{in_some, rings, sum_of}
use Rattle.geometry.proofs.outline.Outline.some_holds.Given as goal

abbrev pub invariant-loop-n : goal.invariant-loop-n
invariant-loop-n l =
    (sum_of (drop l.n-index l.self.loop_lengths.now) * 2 ≤ length l.ahead) × (in_some l.p (rings l.self.coords.now l.self.loop_lengths.now) ≡ in_some l.p (rings l.ahead (drop l.n-index l.self.loop_lengths.now)))
