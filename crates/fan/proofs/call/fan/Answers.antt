use mathlib.Core.Path.{◌≡◌, refl, sym, ap, ◌∙◌}
use mathlib.Core.Bool.{true≢false}
use Rattle.std.proofs.lemmas.Result.{err_from_is_err_and}
use Rattle.state.specs.Lent.{held_in}
use Rattle.state.proofs.Sounding as sounding
use Rattle.state.proofs.Calling.{input_refuses, state_refuses, state_stands}
use Rattle.input.specs.Job.{Job, job_of, accepted_of}
use Rattle.input.proofs.Shape.{right_lengths_lem}
use Rattle.rules.specs.Fan.{fan as fan_of}
use Rattle.rules.specs.Calls.{fan_call}
use Rattle.fan.proofs.Fitting.{core_within}
use Rattle.fan.proofs.call.fan.Goals as goal

pub returns-in_err-accepted-clause-left : goal.returns-in_err-accepted-clause-left
unfolding fan_call
returns-in_err-accepted-clause-left c =
    let p = err_from_is_err_and c.from_residual.result c.from_residual.ensures.1 in
    rw (p.1, p.2) (input_refuses _ (fan_of c.args.job.now.options.corner_limit (job_of c.args.job.now)) _ _ c.in_err-accepted.ensures.value)

pub is_wrong-requires : goal.is_wrong-requires
is_wrong-requires c = right_lengths_lem (job_of c.args.job.now) (held_in c.args.lent.now c.args.counts) _ c.in_ok-accepted.ensures.value refl

pub returns-then-is_wrong-clause-left : goal.returns-then-is_wrong-clause-left
unfolding fan_call
returns-then-is_wrong-clause-left c = state_refuses _ (fan_of c.args.job.now.options.corner_limit (job_of c.args.job.now)) _ (sym c.in_ok-accepted.ensures.value) _ c.is_wrong.ensures c.if-is_wrong.true

pub fan_fill-requires : goal.fan_fill-requires
fan_fill-requires c =
    let b = held_in c.args.lent.now c.args.counts in
    let right = right_lengths_lem (job_of c.args.job.now) b _ c.in_ok-accepted.ensures.value refl in record {
      sound = sounding.sound b right (sym c.is_wrong.ensures ∙ c.if-is_wrong.false);
      clean = λ h. absurd (true≢false (sym h));
      core_quads_bound = core_within b _ c.is_wrong.ensures c.if-is_wrong.false;
    }

pub returns-clause-left : goal.returns-clause-left
unfolding fan_call
returns-clause-left c =
    let j : Job = job_of c.args.job.now in
    let same : accepted_of c.in_ok-accepted.accepted ≡ j = c.in_ok-accepted.ensures.same in
    let limit : c.in_ok-accepted.accepted.options.corner_limit ≡ j.options.corner_limit = ap (λ (k : Job). k.options.corner_limit) same in
    let left = c.fan_fill.ensures.left c.in_ok-accepted.accepted.h c.in_ok-accepted.accepted.options in
    state_stands _ (fan_of j.options.corner_limit j) _ (sym c.in_ok-accepted.ensures.value) _ c.is_wrong.ensures c.if-is_wrong.false _ (rw (same, limit) at left)
