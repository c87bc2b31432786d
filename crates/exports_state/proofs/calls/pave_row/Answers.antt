-- `exports_state::calls::pave_row` meets its contract.
use mathlib.Core.Path.{refl}
use native.Mathlib.Omega.{arith}
use Rattle.state.specs.Refusals.{answered}
use Rattle.state.specs.State.{Held}
use Rattle.state.specs.Call.{Left}
use Rattle.input.specs.declared.Options.{Options}
use Rattle.input.specs.Job.{job}
use Rattle.rules.specs.RowCall.{row_call}
use Rattle.exports_counts.specs.Calls.{options_of}
use Rattle.exports_counts.proofs.Slices.{state_short, state_answered}
use Rattle.exports_state.proofs.calls.pave_row.Goals as goal

pub returns-in_default : goal.returns-in_default
returns-in_default c =
    let call : Options → Held → Left = λ o. row_call (job c.args.coords.now c.args.loop_lengths.now c.args.h o) c.args.front in
    let options : Options = options_of c.args.corner_margin c.args.min_edge_fraction c.args.front_gap c.args.max_row_rounds c.args.seam c.args.corner_limit in
    state_short call options _ refl _ _ _ _ _ c.in_default.ensures.cases

pub returns : goal.returns
returns c =
    let call : Options → Held → Left = λ o. row_call (job c.args.coords.now c.args.loop_lengths.now c.args.h o) c.args.front in
    state_answered call _ _ c.options_of-options.ensures _ _ _ _ _ _ _ _ _ c.in-Some.ensures.cases.long _ (rw c.in-Some.ensures.cases.same at c.counts_of-before.ensures) (answered c.row-answer.result) (grind arith) (rw c.numbered.ensures at c.put_answer.ensures)
