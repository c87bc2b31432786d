-- `passes::pass::one_pass` meets its contract. The invariant: a row was tried on each front passed, and the buffers are sound and clean.
use Rattle.state.specs.Lent.{Same, held_in}
use Rattle.input.specs.Job.{accepted_of}
use Rattle.passes.proofs.Rows.{Rowed}
use Rattle.passes.proofs.pass.one_pass.Given as goal

abbrev pub invariant-loop-li : goal.invariant-loop-li
invariant-loop-li l =
    Rowed (accepted_of l.job) l.fronts l.li-items (held_in l.initial.lent l.initial.c) l.li-index (held_in l.lent l.c) × Same l.initial.lent l.lent
