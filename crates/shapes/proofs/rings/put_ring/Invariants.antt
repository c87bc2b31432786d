-- `shapes::rings::put_ring` meets its contract. The invariant: the places of the points to come are left, and the letter.
use Rattle.std.proofs.Common.{length, drop}
use Rattle.text.proofs.Midst.{Midst}
use Rattle.shapes.specs.Shapes.{line_text, rest_text}
use Rattle.text.specs.Writing.{Same}
use Rattle.shapes.proofs.rings.put_ring.Given as goal

abbrev pub invariant-loop-p : goal.invariant-loop-p
invariant-loop-p g l = Midst l.fn.w.out.now l.fn.w.at (line_text g.ps) l.w.out.now l.w.at (rest_text (drop (length l.yielded) g.ps)) × Same l.fn.w l.w
