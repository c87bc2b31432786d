-- The points of the nodes.
use Rattle.std.proofs.Common.{map}
use Rattle.std.specs.Iterator.Adapters.{map_source, map_callee}
use Rattle.std.specs.Slice.Iter.{iter_rest}
use Rattle.geometry.specs.Rings.{point_at}
use Rattle.shapes.proofs.rings.put_shape.Given as goal

abbrev pub ghost-put_ring : goal.ghost-put_ring
ghost-put_ring a = map (point_at (map_callee a.ring).0.now) (iter_rest (map_source a.ring))
