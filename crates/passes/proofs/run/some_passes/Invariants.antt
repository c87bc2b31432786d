-- `passes::run::some_passes` meets its contract. The invariant: what is left of the passes, from the buffers as they are, gives what all give; and the buffers are sound and clean.
use Rattle.state.specs.Lent.{Same, held_in}
use Rattle.input.specs.Job.{accepted_of}
use Rattle.passes.proofs.Runs.{Ran}
use Rattle.passes.proofs.run.some_passes.Given as goal

abbrev pub invariant-loop : goal.invariant-loop
invariant-loop l =
    Ran (accepted_of l.job) l.most (held_in l.initial.lent l.initial.c) l.counter (held_in l.lent l.c) × Same l.initial.lent l.lent
