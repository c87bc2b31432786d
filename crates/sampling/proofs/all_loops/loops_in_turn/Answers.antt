use mathlib.Core.Path.{refl, ap, ◌∙◌}
use Prim.Native.Nat.{◌+◌, ◌≤◌}
use native.Mathlib.Omega.{arith}
use lib.ListN.{set, length-set}
use Rattle.std.proofs.lemmas.Result.{err_from_is_err_and}
use Rattle.state.specs.Limits.{front_node_limit}
use Rattle.sampling.proofs.Sampling.{made_nodes, at_first, room_first, loop_refused, one_more, at_last}
use Rattle.sampling.proofs.all_loops.loops_in_turn.Goals as goal

pub loop-k-init : goal.loop-k-init
loop-k-init c =
    (at_first c.args.job.now.outline.coords.now c.args.job.now.outline.loop_lengths.now c.args.job.now.h c.args.job.now.options.corner_margin c.args.points.now c.args.front_nodes.now c.args.front_lengths.now c.requires.job.0, refl, refl, refl, refl, refl, refl)

pub invariant_of-given : goal.invariant_of-given
invariant_of-given c = record { fits = room_first c.loop-k.invariant.0 c.from.ensures c.loop-k-test.true }

pub sample_loop-requires : goal.sample_loop-requires
sample_loop-requires c =
    let l = c.loop-k in
    let fits = room_first l.invariant.0 c.from.ensures c.loop-k-test.true in
    let shorter = l.invariant.0.shorter in record {
      n_bound = (
        omega (arith, fits, shorter, c.requires.job.1),
        omega (arith, fits, shorter, c.requires.work.0, l.invariant.4),
        omega (arith, fits, shorter, c.requires.work.1, l.invariant.5),
        omega (arith, fits, shorter, c.requires.work.2, l.invariant.6),
      );
      at_bound = (l.invariant.0.within, omega (arith, c.requires.room.0, l.invariant.1));
    }

pub shape_of-points-in_err-more : goal.shape_of-points-in_err-more
shape_of-points-in_err-more c =
    c.sample_loop.auto.points ∙ c.loop-k.invariant.1

pub shape_of-front_nodes-in_err-more : goal.shape_of-front_nodes-in_err-more
shape_of-front_nodes-in_err-more c =
    c.loop-k.invariant.2

pub shape_of-front_lengths-in_err-more : goal.shape_of-front_lengths-in_err-more
shape_of-front_lengths-in_err-more c =
    c.loop-k.invariant.3

pub shape_of-buffer-in_err-more : goal.shape_of-buffer-in_err-more
shape_of-buffer-in_err-more c =
    c.sample_loop.auto.buffer ∙ c.loop-k.invariant.4

pub shape_of-lengths-in_err-more : goal.shape_of-lengths-in_err-more
shape_of-lengths-in_err-more c =
    c.sample_loop.auto.lengths ∙ c.loop-k.invariant.5

pub shape_of-spans-in_err-more : goal.shape_of-spans-in_err-more
shape_of-spans-in_err-more c =
    c.sample_loop.auto.spans ∙ c.loop-k.invariant.6

pub returns-in_err-more : goal.returns-in_err-more
returns-in_err-more c =
    let l = c.loop-k in
    let p = err_from_is_err_and c.from_residual.result c.from_residual.ensures.1 in
    rw (p.1, p.2) (loop_refused l.invariant.0 c.from.ensures c.loop-k-test.true _ (rw c.in_err-more.was at c.sample_loop.ensures))

pub put_numbers-requires : goal.put_numbers-requires
put_numbers-requires c =
    let few : c.loop-k.nodes + c.in_ok-more.more ≤ front_node_limit = (made_nodes c.in_ok-more.was c.sample_loop.ensures).1.within in
    (omega (arith, few, c.loop-k.invariant.2, c.requires.room.1), omega (arith, few))

pub narrow-requires : goal.narrow-requires
narrow-requires c =
    let few : c.loop-k.nodes + c.in_ok-more.more ≤ front_node_limit = (made_nodes c.in_ok-more.was c.sample_loop.ensures).1.within in
    omega (arith, few)

pub bounds-front_lengths-k : goal.bounds-front_lengths-k
bounds-front_lengths-k c =
    omega (arith, c.loop-k-test.true, c.loop-k.invariant.3, c.requires.job.2, c.requires.room.2)

pub overflow_add-nodes : goal.overflow_add-nodes
overflow_add-nodes c =
    let few : c.loop-k.nodes + c.in_ok-more.more ≤ front_node_limit = (made_nodes c.in_ok-more.was c.sample_loop.ensures).1.within in
    omega (arith, few)

pub loop-k-preserved : goal.loop-k-preserved
loop-k-preserved c =
    let sample-loop = c.sample_loop in
    let put-numbers = c.put_numbers in
    let l = c.loop-k in
    let w = made_nodes c.in_ok-more.was sample-loop.ensures in (
      one_more l.invariant.0 c.from.ensures c.loop-k-test.true w.0 w.1 put-numbers.ensures (ap (set l.front_lengths l.k) c.narrow.ensures) c.rest-ahead.ensures,
      sample-loop.auto.points ∙ l.invariant.1,
      put-numbers.auto.nodes ∙ l.invariant.2,
      simp length-set l.invariant.3,
      sample-loop.auto.buffer ∙ l.invariant.4,
      sample-loop.auto.lengths ∙ l.invariant.5,
      sample-loop.auto.spans ∙ l.invariant.6,
    )

pub shape_of-points : goal.shape_of-points
shape_of-points c = c.loop-k.invariant.1

pub shape_of-front_nodes : goal.shape_of-front_nodes
shape_of-front_nodes c = c.loop-k.invariant.2

pub shape_of-front_lengths : goal.shape_of-front_lengths
shape_of-front_lengths c = c.loop-k.invariant.3

pub shape_of-buffer : goal.shape_of-buffer
shape_of-buffer c = c.loop-k.invariant.4

pub shape_of-lengths : goal.shape_of-lengths
shape_of-lengths c = c.loop-k.invariant.5

pub shape_of-spans : goal.shape_of-spans
shape_of-spans c = c.loop-k.invariant.6

pub returns : goal.returns
returns c = at_last c.loop-k.invariant.0 c.loop-k-test.false
