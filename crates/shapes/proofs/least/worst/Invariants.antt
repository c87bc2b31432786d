-- `shapes::least::worst` meets its contract. The invariant: the least so far and that of the tiles to come give the least of all.
use Rattle.std.proofs.Common.{false, ◌≡◌, drop, map}
use Rattle.std.specs.Float.{inf}
use Rattle.shapes.specs.Shapes.{worst, quad_at}
use Rattle.shapes.proofs.Turns.{quads_in}
use Rattle.shapes.proofs.least.worst.Given as goal

abbrev pub invariant-loop-nodes : goal.invariant-loop-nodes
invariant-loop-nodes l = worst l.least l.points (map quad_at (drop l.nodes-index l.tiles)) ≡ worst (inf false) l.points (quads_in l.quads)
