-- `tile_list::put_rechecked` meets its contract.
use native.Mathlib.Omega.{arith}
use borrow.Author.Rules.{rules}
use Rattle.tile_list.proofs.Verdicts.{from_zeros}
use Rattle.tile_list.proofs.put_rechecked.Goals as goal

pub invariant_of-list : goal.invariant_of-list
invariant_of-list c = record {
  state_long = search rules;
  loops_long = grind arith;
  quads_long = search rules;
  nodes_fit = c.fit_nodes.ensures.fit;
  points_fit = c.fit_points.ensures.fit;
}

pub put_verdict-requires : goal.put_verdict-requires
put_verdict-requires c = record { room = c.requires; read = from_zeros c.args.input.now _ _ (search rules) }
