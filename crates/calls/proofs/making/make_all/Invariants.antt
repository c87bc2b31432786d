-- What the calls made so far leave, and how many are left.
use Rattle.std.proofs.Common.{drop, ◌≡◌}
use Rattle.state.specs.Lent.{Same, held_in}
use Rattle.input.specs.Job.{job_of}
use Rattle.calls.specs.Calls.{after}
use Rattle.calls.proofs.making.make_all.Given as goal

abbrev pub invariant-loop-letter : goal.invariant-loop-letter
invariant-loop-letter g l = record {
  same : Same l.initial.lent l.lent;
  made : after (job_of l.job) (drop l.letter-index l.letters) (held_in l.lent l.counts) ≡ after (job_of l.job) l.letters (held_in l.initial.lent l.initial.counts);
}
