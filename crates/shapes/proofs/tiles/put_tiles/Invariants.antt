-- `shapes::tiles::put_tiles` meets its contract. The invariant: the tiles to come are left.
use Rattle.std.proofs.Common.{drop, map}
use Rattle.text.proofs.Midst.{Midst}
use Rattle.shapes.specs.Shapes.{tiles_text, quad_at}
use Rattle.shapes.proofs.Turns.{quads_in}
use Rattle.text.specs.Writing.{Same}
use Rattle.shapes.proofs.tiles.put_tiles.Given as goal

abbrev pub invariant-loop-nodes : goal.invariant-loop-nodes
invariant-loop-nodes l =
    Midst l.initial.w.out.now l.initial.w.at (tiles_text l.limit l.points (quads_in l.quads)) l.w.out.now l.w.at (tiles_text l.limit l.points (map quad_at (drop l.nodes-index l.tiles))) × Same l.initial.w l.w
