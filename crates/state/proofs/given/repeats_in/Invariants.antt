-- `state::given::repeats_in` meets its contract. The invariant: just the numbers passed are marked, and none of them stands twice.
use Rattle.state.proofs.Repeating.{Marked}
use Rattle.state.proofs.given.repeats_in.Given as goal

abbrev pub invariant-loop-node : goal.invariant-loop-node
invariant-loop-node g l = Marked g.row.N l.nodes l.node-index l.met
