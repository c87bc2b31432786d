-- A turned loop read backwards.
use mathlib.Core.Path.{◌≡◌, refl}
use mathlib.Core.Bool.{Bool, true, false, not, cond, beq}
use mathlib.Core.List.{List}
use Prim.Native.Nat.{ℕ, ◌/◌}
use lib.ListN.{length}
use lib.Ieee.{Float, lt}
use Rattle.float.specs.Helpers.{decimal}
use Rattle.geometry.specs.Rings.{Ring, ring_of}
use Rattle.geometry.specs.Measures.{signed_area}
use Rattle.planning.specs.Ring.{closeness, kept, unclosed, turned, loop_ring}
use Rattle.planning.specs.Backwards.{turned_if}

turn_back : (ccw b : Bool) (r : Ring) → b ≡ not (beq (lt (decimal 0 0) (signed_area r)) ccw) → turned ccw r ≡ turned_if b r
unfolding turned
turn_back ccw b r e = rw e (go (beq (lt (decimal 0 0) (signed_area r)) ccw))
  where
    go : (t : Bool) → cond t r (turned_if true r) ≡ turned_if (not t) r
    go true = refl
    go false = refl

pub ring_found : (h : Float) (ccw back : Bool) (r : Ring) (q : List Float) (n : ℕ) → q ≡ kept (closeness h) r r.size → n ≡ unclosed (closeness h) q (length q / 2)
    → back ≡ not (beq (lt (decimal 0 0) (signed_area (ring_of q n))) ccw) → loop_ring h ccw r ≡ turned_if back (ring_of q n)
unfolding loop_ring
ring_found h ccw back r q n hq hn hb = rw (← hq, ← hn) (turn_back ccw back (ring_of q n) hb)
