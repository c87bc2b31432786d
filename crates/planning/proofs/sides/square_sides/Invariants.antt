-- `planning::sides::square_sides` meets its contract. The invariant: the first i sides and corners are written, and the next corner and the vector to it are at hand.
use mathlib.Core.Path.{◌≡◌}
use Prim.Native.Nat.{ℕ, ◌<◌}
use lib.Ieee.{nan}
use lib.ListN.{get_or}
use Rattle.geometry.specs.Rings.{prev}
use Rattle.geometry.specs.Measures.{toward}
use Rattle.planning.specs.Plan as plans
use Rattle.planning.specs.Backwards.{read_ring}
use Rattle.planning.specs.Side.{along, square}
use Rattle.planning.proofs.Measuring.{corner}
use Rattle.planning.proofs.sides.square_sides.Given as goal

abbrev pub invariant-loop-i : goal.invariant-loop-i
invariant-loop-i l =
    let r = read_ring l.ring in
    (l.b ≡ r.at (corner l.ring.n l.i))
    × (l.d ≡ toward (r.at (prev l.ring.n (corner l.ring.n l.i))) (r.at (corner l.ring.n l.i)))
    × ((k : ℕ) → k < l.i → get_or l.squares k nan ≡ square (along r k))
    × ((k : ℕ) → k < l.i → get_or l.margins k nan ≡ plans.margin l.spacing.h l.spacing.corner_margin r k)
