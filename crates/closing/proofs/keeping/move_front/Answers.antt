use mathlib.Core.Path.{◌∙◌}
use native.Mathlib.Omega.{arith}
use Rattle.closing.proofs.Moving.{within_is}
use Rattle.closing.proofs.keeping.move_front.Goals as goal

pub returns-clause-front_nodes_after : goal.returns-clause-front_nodes_after
returns-clause-front_nodes_after c =
    c.copy_within.ensures.after ∙ rw c.from-n.ensures (within_is c.args.front_nodes.now c.args.start c.args.place.node c.args.len c.requires.1 (omega arith))
