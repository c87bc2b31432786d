-- `sampling::call::put_loops` meets its contract: every place is written, so what the buffers held is not seen.
use mathlib.Core.Path.{◌≡◌}
use Prim.Native.Nat.{◌≤◌}
use native.Mathlib.Omega.{arith}
use Rattle.state.specs.Limits.{front_node_limit}
use Rattle.state.specs.State.{no_counts}
use Rattle.input.specs.Job.{accepted_of}
use Rattle.sampling.proofs.Calling.{total_nodes, loops_refuse, given}
use Rattle.std.proofs.Common.{rules}
use Rattle.float.proofs.Literals.{zero_is}
use Rattle.input.proofs.Shape.{lengths_lent}
use Rattle.sampling.proofs.call.put_loops.Goals as goal

pub sample_loops-requires : goal.sample_loops-requires
sample_loops-requires c =
    let s = c.requires in record {
      job = (s.even, s.small, s.few);
      room = (omega (arith, s.points), omega (arith, s.nodes), omega (arith, s.fronts));
    }

pub overflow_mul-nodes : goal.overflow_mul-nodes
overflow_mul-nodes c =
    let few : c.in-Ok.nodes ≤ front_node_limit = (total_nodes c.in-Ok.is c.sample_loops.ensures).few in
    omega (arith, few)

pub fill_from-requires-clause-within : goal.fill_from-requires-clause-within
fill_from-requires-clause-within c =
    let few : c.in-Ok.nodes ≤ front_node_limit = (total_nodes c.in-Ok.is c.sample_loops.ensures).few in
    omega (arith, few, c.sample_loops.auto.points, c.requires.points)

pub fill_from-requires-in-Ok-clause-within : goal.fill_from-requires-in-Ok-clause-within
fill_from-requires-in-Ok-clause-within c =
    let few : c.in-Ok.nodes ≤ front_node_limit = (total_nodes c.in-Ok.is c.sample_loops.ensures).few in
    omega (arith, few, c.sample_loops.auto.front_nodes, c.requires.nodes)

pub fill_from-requires-in-Ok-2-clause-within : goal.fill_from-requires-in-Ok-2-clause-within
fill_from-requires-in-Ok-2-clause-within c =
    omega (arith, c.requires.few, c.sample_loops.auto.front_lengths, c.requires.fronts)

pub returns-in-Err-clause-refused : goal.returns-in-Err-clause-refused
returns-in-Err-clause-refused c = loops_refuse (accepted_of c.args.job.now) _ (rw c.in-Err.is at c.sample_loops.ensures)

pub returns-in-Ok-clause-given : goal.returns-in-Ok-clause-given
returns-in-Ok-clause-given c =
    let made = c.sample_loops in
    let none : c.default.result ≡ no_counts = search rules in
    rw none
    (given (accepted_of c.args.job.now) _ _ _ _ _ c.args.lent.now.quads.now _ _ _ _ _ _ _ (total_nodes c.in-Ok.is made.ensures) c.requires.few (lengths_lent c.requires) (made.auto.points, made.auto.front_nodes, made.auto.front_lengths)
    (rw zero_is at c.fill_from.ensures) (c.fill.ensures.after (λ y e. e)) c.fill_from-in-Ok.ensures c.fill_from-in-Ok-2.ensures)
