-- No side of a loop's ring is as short as 1e-12, and the nodes placed are the nodes planned.
use mathlib.Core.List.{List, [], ◌∷◌}
use Prim.Native.Nat.{ℕ, zero, suc, ◌<◌}
use native.Mathlib.Omega.{arith}
use lib.Dec.{eqb}
use lib.ListN.{length, get_or}
use Rattle.geometry.specs.Rings.{Ring, ring_of}
use Rattle.geometry.specs.Domain.{rings}
use Rattle.geometry.proofs.Sizes.{RingWithin}
use Rattle.planning.proofs.Apart.{sides_long}
use Rattle.placing.proofs.Placing.{placed_planned, planned_even, planned_four}
use Rattle.input.proofs.Shape.{accepted}
use Rattle.rules.specs.Loops.{ring_at, LoopsPlaced}
use Rattle.rules.proofs.SampleGood.{length-rings}
use Rattle.rules.proofs.SampleSizes.{limited, EachWithin, rings_within}

one_within : (n : ℕ) (rs : List Ring) (k : ℕ) (d : Ring) → k < length rs → EachWithin n rs → RingWithin n (get_or rs k d)
unfolding EachWithin
one_within n [] k d l w = absurd (omega arith)
one_within n (r ∷ rs) zero d l w = w.0
one_within n (r ∷ rs) (suc k) d l w = one_within n rs k d (omega arith) w.1

pub loops_placed : LoopsPlaced
loops_placed j l e k few three =
    let lim = limited j l e in
    let shape = accepted j l e in
    let r = ring_at j k in
    let given = get_or (rings j.coords j.loops) k (ring_of [] 0) in
    let w = one_within 1000000 (rings j.coords j.loops) k (ring_of [] 0) (omega (arith, length-rings j.coords j.loops)) (rings_within 1000000 j.coords j.loops (omega arith) lim.coords) in
    record {
      long = sides_long j.h lim.size_least lim.size given w (eqb k 0) (omega arith);
      whole = placed_planned j.h j.options.corner_margin r (omega arith);
      even = planned_even j.h j.options.corner_margin r;
      four = planned_four j.h j.options.corner_margin r three;
    }
