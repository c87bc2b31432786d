-- `placing::place::Side::place` meets its contract. The invariant: the first j inner points are written.
use mathlib.Core.Path.{◌≡◌}
use Prim.Native.Nat.{◌*◌}
use lib.Seq.{sets}
use Rattle.placing.specs.Placing.{betweens}
use Rattle.placing.proofs.place.Side.place.Given as goal

abbrev pub invariant-loop-j : goal.invariant-loop-j
invariant-loop-j l = l.points ≡ sets l.initial.points (l.at * 2) (betweens l.self.a l.self.b l.self.length l.self.margin l.self.span l.self.parts l.j)
