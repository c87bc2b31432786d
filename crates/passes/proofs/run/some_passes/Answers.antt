-- `passes::run::some_passes` meets its contract.
use mathlib.Core.Path.{refl, ap}
use native.Mathlib.Omega.{arith}
use Rattle.std.proofs.lemmas.Result.{err_from_is_err_and}
use Rattle.state.specs.State.{Held}
use Rattle.state.specs.Lent.{held_in}
use Rattle.state.proofs.Lending.{same_again}
use Rattle.state.specs.Refusals.{answered}
use Rattle.input.specs.Job.{accepted_of}
use Rattle.passes.proofs.Runs.{ran_refused, ran_last, ran_more, ran_all}
use Rattle.passes.proofs.run.some_passes.Goals as goal

pub returns-in_err-after-clause-passed : goal.returns-in_err-after-clause-passed
returns-in_err-after-clause-passed c =
    let p = err_from_is_err_and c.from_residual.result c.from_residual.ensures.1 in
    let given : Held = held_in c.args.lent.now c.args.counts in
    let w = c.in_err-after.was in
    rw (p.1, p.2) (rw w at (ran_refused (accepted_of c.args.job.now) c.args.most given c.loop.counter _ c.loop.invariant.0 (omega arith) _ _ c.one_pass.ensures.passed _ (ap answered w) given))

pub returns-then-after-c-clause-passed : goal.returns-then-after-c-clause-passed
returns-then-after-c-clause-passed c =
    let given : Held = held_in c.args.lent.now c.args.counts in
    ran_last (accepted_of c.args.job.now) c.args.most given c.loop.counter _ c.loop.invariant.0 (omega arith) _ _ c.one_pass.ensures.passed _ (ap answered c.in_ok-after.was) c.if-after-c.true _ refl

pub loop-preserved : goal.loop-preserved
loop-preserved c =
    let given : Held = held_in c.args.lent.now c.args.counts in
    (ran_more (accepted_of c.args.job.now) c.args.most given c.loop.counter _ c.loop.invariant.0 (omega arith) _ _ c.one_pass.ensures.passed _ (ap answered c.in_ok-after.was) c.if-after-c.false, same_again c.loop.invariant.1 c.one_pass.ensures.same)

pub returns-clause-passed : goal.returns-clause-passed
returns-clause-passed c =
    let given : Held = held_in c.args.lent.now c.args.counts in
    ran_all (accepted_of c.args.job.now) c.args.most given c.loop.counter _ c.loop.invariant.0 (omega arith)

pub returns-clause-same : goal.returns-clause-same
returns-clause-same c = c.loop.invariant.1

pub returns-in_err-after-clause-same : goal.returns-in_err-after-clause-same
returns-in_err-after-clause-same c = same_again c.loop.invariant.1 c.one_pass.ensures.same

pub returns-then-after-c-clause-same : goal.returns-then-after-c-clause-same
returns-then-after-c-clause-same c = same_again c.loop.invariant.1 c.one_pass.ensures.same
