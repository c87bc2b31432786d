-- `shapes::fronts::put_dots` meets its contract. The invariant: the dots from i on are left.
use Rattle.std.proofs.Common.{◌-◌}
use Rattle.state.specs.State.{numbered}
use Rattle.text.proofs.Midst.{Midst}
use Rattle.shapes.specs.Shapes.{dots_text}
use Rattle.text.specs.Writing.{Same}
use Rattle.shapes.proofs.fronts.put_dots.Given as goal

abbrev pub invariant-loop-i : goal.invariant-loop-i
invariant-loop-i l = Midst l.initial.w.out.now l.initial.w.at (dots_text l.nodes.pts.now (numbered 0 l.nodes.n)) l.w.out.now l.w.at (dots_text l.nodes.pts.now (numbered l.i (l.nodes.n - l.i))) × Same l.initial.w l.w
