-- `pair_counts::sides::put_rings` meets its contract. The invariant: the sides of the rings passed are written, and the next ring begins at `start`.
use mathlib.Core.Path.{◌≡◌}
use mathlib.Core.List.{◌++◌}
use Prim.Native.Nat.{◌+◌}
use lib.ListN.{take}
use Rattle.geometry.specs.Domain.{sum_of}
use Rattle.state.specs.State.{cut}
use Rattle.pair_counts.specs.Sides.{lower, higher, ends_of_all}
use Rattle.pair_counts.proofs.sides.put_rings.Given as goal

abbrev pub invariant-loop-n : goal.invariant-loop-n
invariant-loop-n l =
    (l.start ≡ sum_of (take l.n-index l.rings.lengths.now))
    × (take (l.at + l.start) l.lows ≡ take l.at l.initial.lows ++ ends_of_all lower (cut (take l.n-index l.rings.lengths.now) l.rings.nodes.now))
    × (take (l.at + l.start) l.highs ≡ take l.at l.initial.highs ++ ends_of_all higher (cut (take l.n-index l.rings.lengths.now) l.rings.nodes.now))
