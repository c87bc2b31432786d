-- k of the fan's quads are written.
use mathlib.Core.Path.{◌≡◌}
use mathlib.Core.List.{map}
use Prim.Native.Nat.{◌/◌}
use lib.ListN.{length}
use lib.Seq.{sets}
use Rattle.state.specs.State.{joined, quad_nodes}
use Rattle.rules.specs.Fan.{fan_quads}
use Rattle.fan_search.specs.Quads.{with_centre}
use Rattle.fan.proofs.quads.put_fan.Given as goal

abbrev pub invariant-loop-k : goal.invariant-loop-k
invariant-loop-k l = l.quads ≡ sets l.initial.quads l.at (joined (map quad_nodes (fan_quads (with_centre l.fan.front.pts.now l.fan.centre) l.fan.front.nodes.now (length l.fan.front.pts.now / 2) l.k)))
