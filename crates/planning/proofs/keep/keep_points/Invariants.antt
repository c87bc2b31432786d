-- `planning::keep::keep_points` meets its contract. The invariant: the buffer begins with the points that the definition keeps of the first k.
use mathlib.Core.Path.{◌≡◌}
use Prim.Native.Nat.{◌≤◌, ◌*◌}
use lib.ListN.{length}
use lib.Seq.{sets}
use Rattle.geometry.specs.Rings.{ring_of}
use Rattle.planning.specs.Ring as rings
use Rattle.planning.proofs.keep.keep_points.Given as goal

abbrev pub invariant-loop-k : goal.invariant-loop-k
invariant-loop-k l = record {
  within : l.m ≤ l.k;
  many : l.m * 2 ≡ length (rings.kept l.limit (ring_of l.given.pts.now l.given.n) l.k);
  written : l.kept ≡ sets l.initial.kept 0 (rings.kept l.limit (ring_of l.given.pts.now l.given.n) l.k);
}
