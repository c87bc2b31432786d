use mathlib.Core.Path.{refl, sym, ◌∙◌}
use mathlib.Core.Bool.{true≢false}
use Rattle.std.proofs.lemmas.Result.{err_from_is_err_and}
use Rattle.state.specs.Lent.{held_in}
use Rattle.state.proofs.Sounding as sounding
use Rattle.state.proofs.Calling.{input_refuses, state_refuses, state_stands}
use Rattle.input.specs.Job.{job_of}
use Rattle.input.proofs.Shape.{right_lengths_lem}
use Rattle.rules.specs.Closing.{closings}
use Rattle.rules.specs.Calls.{close_call}
use Rattle.closing.proofs.call.close.Goals as goal

pub returns-in_err-check-clause-left : goal.returns-in_err-check-clause-left
unfolding close_call
returns-in_err-check-clause-left c =
    let p = err_from_is_err_and c.from_residual.result c.from_residual.ensures.1 in
    rw (p.1, p.2) (input_refuses _ (closings c.args.job.now.options.corner_limit) _ _ c.in_err-check.ensures.value)

pub is_wrong-requires : goal.is_wrong-requires
is_wrong-requires c = right_lengths_lem (job_of c.args.job.now) (held_in c.args.lent.now c.args.counts) _ c.in_ok-check.ensures.value refl

pub returns-then-is_wrong-clause-left : goal.returns-then-is_wrong-clause-left
unfolding close_call
returns-then-is_wrong-clause-left c = state_refuses _ (closings c.args.job.now.options.corner_limit) _ (sym c.in_ok-check.ensures.value) _ c.is_wrong.ensures c.if-is_wrong.true

pub close_small_fronts-requires : goal.close_small_fronts-requires
close_small_fronts-requires c =
    let b = held_in c.args.lent.now c.args.counts in
    let right = right_lengths_lem (job_of c.args.job.now) b _ c.in_ok-check.ensures.value refl in record {
      sound = sounding.sound b right (sym c.is_wrong.ensures ∙ c.if-is_wrong.false);
      clean = λ h. absurd (true≢false (sym h));
    }

pub returns-clause-left : goal.returns-clause-left
unfolding close_call
returns-clause-left c = state_stands _ (closings c.args.job.now.options.corner_limit) _ (sym c.in_ok-check.ensures.value) _ c.is_wrong.ensures c.if-is_wrong.false _ c.close_small_fronts.ensures.left
