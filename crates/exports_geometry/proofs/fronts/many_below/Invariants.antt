-- `exports_geometry::fronts::many_below` meets its contract. The invariant: what was found, and the numbers ahead, give the answer.
use Rattle.std.proofs.Common.{◌≡◌, ◌&&◌, drop}
use Rattle.exports_geometry.specs.Fronts.{all_below}
use Rattle.exports_geometry.proofs.fronts.many_below.Given as goal

abbrev pub invariant-loop-m : goal.invariant-loop-m
invariant-loop-m l = all_below l.n l.numbers ≡ (l.below && all_below l.n (drop l.m-index l.numbers))
