-- The quads of the closures so far are written, and the next one's go to `place`.
use mathlib.Core.Path.{◌≡◌}
use Prim.Native.Nat.{◌+◌, ◌*◌}
use lib.ListN.{length, take}
use lib.Seq.{sets}
use Rattle.std.specs.List.{flat_map}
use Rattle.state.proofs.Growing.{numbers}
use Rattle.closing_search.specs.Closures.{closure_quads}
use Rattle.closing.proofs.laying.put_closures.Given as goal

abbrev pub invariant-loop-closure : goal.invariant-loop-closure
invariant-loop-closure l = record {
  stands : l.quads ≡ sets l.initial.quads l.at (numbers (flat_map closure_quads (take l.closure-index l.closures)));
  place : l.place ≡ l.at + length (flat_map closure_quads (take l.closure-index l.closures)) * 4;
}
