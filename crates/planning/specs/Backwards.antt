-- A turned loop needs no second copy: its ring is read backwards. Definitions only.
use Rattle.std.specs.Prelude.{◌-◌, Bool, cond}
use Rattle.geometry.specs.Rings.{Ring, ring_of}
use Rattle.planning.specs.declared.loop_ring.LoopRing.{LoopRing}

-- the ring itself, or the ring turned (`reversed`)
abbrev pub turned_if : Bool → Ring → Ring
turned_if back r = record { size = r.size; at = λ i. r.at (cond back (r.size - 1 - i) i) }

-- the ring that the code reads
abbrev pub read_ring : LoopRing → Ring
read_ring r = turned_if r.back (ring_of r.pts.now r.n)
