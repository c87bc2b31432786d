-- `row::call::row` meets its contract.
use mathlib.Core.Path.{refl, sym, ◌∙◌}
use mathlib.Core.Bool.{true≢false}
use Rattle.std.proofs.lemmas.Result.{err_from_is_err_and}
use Rattle.state.specs.State.{Held}
use Rattle.state.specs.Lent.{held_in}
use Rattle.state.proofs.Sounding.{sound}
use Rattle.state.proofs.Calling.{input_refuses, state_refuses, state_stands}
use Rattle.input.specs.Job.{job_of}
use Rattle.input.proofs.Shape.{right_lengths_lem}
use Rattle.rules.specs.RowCall.{row_at, row_call}
use Rattle.row.proofs.Stepping.{no_front, a_front}
use Rattle.row.proofs.call.row.Goals as goal

pub returns-in_err-accepted-clause-left : goal.returns-in_err-accepted-clause-left
unfolding row_call
returns-in_err-accepted-clause-left c =
    let p = err_from_is_err_and c.from_residual.result c.from_residual.ensures.1 in
    let given : Held = held_in c.args.lent.now c.args.counts in
    rw (p.1, p.2) (input_refuses given (row_at (job_of c.args.job.now) c.args.front) _ _ c.in_err-accepted.ensures.value)

pub is_wrong-requires : goal.is_wrong-requires
is_wrong-requires c =
    let given : Held = held_in c.args.lent.now c.args.counts in
    let j = job_of c.args.job.now in
    let input = c.in_ok-accepted.ensures.value in
    right_lengths_lem j given 0 input refl

pub returns-then-is_wrong-clause-left : goal.returns-then-is_wrong-clause-left
unfolding row_call
returns-then-is_wrong-clause-left c =
    let given : Held = held_in c.args.lent.now c.args.counts in
    let j = job_of c.args.job.now in
    let input = c.in_ok-accepted.ensures.value in
    rw (← input) (state_refuses given (row_at j c.args.front) 0 refl _ c.is_wrong.ensures c.if-is_wrong.true)

pub returns-then-counts-li-clause-left : goal.returns-then-counts-li-clause-left
unfolding row_call
returns-then-counts-li-clause-left c =
    let given : Held = held_in c.args.lent.now c.args.counts in
    let j = job_of c.args.job.now in
    let input = c.in_ok-accepted.ensures.value in
    let s = sound given (right_lengths_lem j given 0 input refl) (sym c.is_wrong.ensures ∙ c.if-is_wrong.false) in
    rw (← input) (state_stands given (row_at j c.args.front) 0 refl _ c.is_wrong.ensures c.if-is_wrong.false _ (no_front j c.args.front given s c.if-counts-li.true))

pub row_on-requires : goal.row_on-requires
row_on-requires c =
    let given : Held = held_in c.args.lent.now c.args.counts in
    let j = job_of c.args.job.now in
    let input = c.in_ok-accepted.ensures.value in
    record {
      sound = sound given (right_lengths_lem j given 0 input refl) (sym c.is_wrong.ensures ∙ c.if-is_wrong.false);
      clean = (λ h. absurd (true≢false (sym h)));
      li_lt_fronts = c.if-counts-li.false;
    }

pub returns-clause-left : goal.returns-clause-left
unfolding row_call
returns-clause-left c =
    let given : Held = held_in c.args.lent.now c.args.counts in
    let j = job_of c.args.job.now in
    let input = c.in_ok-accepted.ensures.value in
    let s = sound given (right_lengths_lem j given 0 input refl) (sym c.is_wrong.ensures ∙ c.if-is_wrong.false) in
    rw (← input) (state_stands given (row_at j c.args.front) 0 refl _ c.is_wrong.ensures c.if-is_wrong.false _ (a_front j c.args.front given s _ c.if-counts-li.false (rw c.in_ok-accepted.ensures.same at c.row_on.ensures.left)))
