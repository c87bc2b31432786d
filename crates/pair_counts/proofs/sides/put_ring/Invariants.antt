-- `pair_counts::sides::put_ring` meets its contract. The invariant: i sides are written.
use mathlib.Core.Path.{◌≡◌}
use mathlib.Core.List.{◌++◌}
use Prim.Native.Nat.{◌+◌}
use lib.ListN.{take}
use Rattle.pair_counts.specs.Sides.{lower, higher, listed}
use Rattle.pair_counts.proofs.Filling.{side}
use Rattle.pair_counts.proofs.sides.put_ring.Given as goal

abbrev pub invariant-loop-i : goal.invariant-loop-i
invariant-loop-i l =
    (take (l.at + l.i) l.lows ≡ take l.at l.initial.lows ++ listed (side lower l.ring) l.i)
    × (take (l.at + l.i) l.highs ≡ take l.at l.initial.highs ++ listed (side higher l.ring) l.i)
