-- `state::given::wrong_nodes` meets its contract.
use Rattle.state.proofs.Repeating.{all_below}
use Rattle.state.proofs.given.wrong_nodes.Goals as goal
use Rattle.state.proofs.given.wrong_nodes.Goals.{then-some_from, else-some_from}

pub repeats-requires : goal.repeats-requires
repeats-requires c =
    (c.requires, all_below c.args.n c.args.nodes.now (elim c.if-some_from.branch [ then-some_from w ↦ cc | else-some_from w ↦ cc ]))
