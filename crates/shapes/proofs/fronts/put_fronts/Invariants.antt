-- `shapes::fronts::put_fronts` meets its contract. The invariant: the fronts from `n-index` on are left, and `left` has their nodes.
use Rattle.std.proofs.Common.{◌≤◌, length, drop}
use Rattle.geometry.specs.Domain.{sum_of}
use Rattle.state.specs.State.{cut}
use Rattle.text.proofs.Midst.{Midst}
use Rattle.shapes.specs.Shapes.{fronts_text}
use Rattle.text.specs.Writing.{Same}
use Rattle.shapes.proofs.fronts.put_fronts.Given as goal

abbrev pub invariant-loop-n : goal.invariant-loop-n
invariant-loop-n l = (sum_of (drop l.n-index l.lengths) ≤ length l.left) × Midst l.initial.w.out.now l.initial.w.at (fronts_text l.points (cut l.lengths l.nodes)) l.w.out.now l.w.at (fronts_text l.points (cut (drop l.n-index l.lengths) l.left)) × Same l.initial.w l.w
