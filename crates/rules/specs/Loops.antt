-- What holds of every loop that sampling places nodes on. Statements only; proofs/Loops.antt proves them.
use Rattle.std.specs.Prelude.{ℕ, ◌*◌, ◌%◌, ◌≤◌, ◌<◌, ◌≡◌, false, [], length, get_or, eqb, Float}
use Rattle.std.specs.Float.Ieee.{le}
use Rattle.float.specs.Helpers.{decimal}
use Rattle.geometry.specs.Rings.{Ring, ring_of}
use Rattle.geometry.specs.Domain.{rings}
use Rattle.state.specs.State.{Lengths}
use Rattle.input.specs.Job.{Job, input_number}
use Rattle.planning.specs.Ring.{loop_ring}
use Rattle.planning.specs.Plan.{side_at, planned}
use Rattle.placing.specs.Placed.{placed}

-- Three rules of the Rust never act on this ring: that a side of length at most 1e-12 gets no inner points, and the refusals of a
-- loop on which fewer than four nodes were placed, or an odd number (8 and 9, as long as document 01 stood by itself).
pub record Placeable (h corner_margin : Float) (r : Ring) : Type 0 where
  -- no side is as short, by its computed length, the last point's to the first included
  pub long : (i : ℕ) → i < r.size → le (side_at r i) (decimal 1 12) ≡ false
  -- the nodes placed are the nodes planned, even in number and at least four
  pub whole : length (placed h corner_margin r r.size) ≡ planned h corner_margin r * 2
  pub even : planned h corner_margin r % 2 ≡ 0
  pub four : 4 ≤ planned h corner_margin r

-- the ring that sampling makes of loop k
abbrev pub ring_at : Job → ℕ → Ring
ring_at j k = loop_ring j.h (eqb k 0) (get_or (rings j.coords j.loops) k (ring_of [] 0))

-- of each job that passes the tests of its input, each loop that number 7 does not refuse
abbrev pub LoopsPlaced : Type 0
LoopsPlaced = (j : Job) (l : Lengths) → input_number j l ≡ 0 → (k : ℕ) → k < length j.loops → 3 ≤ (ring_at j k).size → Placeable j.h j.options.corner_margin (ring_at j k)
