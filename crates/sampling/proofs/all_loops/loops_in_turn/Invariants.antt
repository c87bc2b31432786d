-- `sampling::all_loops::loops_in_turn` meets its contract. The invariant: k loops are sampled and written, and the definition goes on with those to come.
use mathlib.Core.Path.{◌≡◌}
use lib.ListN.{length}
use Rattle.sampling.proofs.Sampling.{Progress}
use Rattle.sampling.proofs.all_loops.loops_in_turn.Given as goal

abbrev pub invariant-loop-k : goal.invariant-loop-k
invariant-loop-k l =
    Progress l.job.outline.coords.now l.job.outline.loop_lengths.now l.job.h l.job.options.corner_margin l.initial.points l.initial.front_nodes l.initial.front_lengths l.ahead l.nodes l.k l.points l.front_nodes l.front_lengths
    × (length l.points ≡ length l.initial.points)
    × (length l.front_nodes ≡ length l.initial.front_nodes)
    × (length l.front_lengths ≡ length l.initial.front_lengths)
    × (length l.buffer ≡ length l.initial.buffer)
    × (length l.lengths ≡ length l.initial.lengths)
    × (length l.spans ≡ length l.initial.spans)
