-- `exports_geometry::outline::loops_fit` meets its contract. The invariant: the loops ahead fit what is left as all loops fit all points.
use Rattle.std.proofs.Common.{◌≡◌, drop}
use lib.Dec.{leb}
use Rattle.geometry.specs.Domain.{sum_of}
use Rattle.exports_geometry.specs.Outline.{loops_fit}
use Rattle.exports_geometry.proofs.outline.loops_fit.Given as goal

abbrev pub invariant-loop-n : goal.invariant-loop-n
invariant-loop-n l = loops_fit l.coords l.loop_lengths ≡ leb (sum_of (drop l.n-index l.loop_lengths)) l.left
