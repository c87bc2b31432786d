-- `exports::calls::pave_sample` meets its contract.
use mathlib.Core.Path.{refl}
use native.Mathlib.Omega.{arith}
use lib.ListN.{length}
use Rattle.state.specs.Refusals.{answered}
use Rattle.state.specs.Call.{Left, lengths_of}
use Rattle.input.specs.declared.Options.{Options}
use Rattle.input.specs.Job.{job}
use Rattle.sampling.specs.Sample.{sample_call}
use Rattle.exports_counts.specs.Calls.{options_of}
use Rattle.exports_counts.proofs.Slices.{job_short, job_answered}
use Rattle.exports.proofs.calls.pave_sample.Goals as goal

pub returns-in_default : goal.returns-in_default
returns-in_default c =
    let call : Options → Left = λ o. sample_call (job c.args.coords.now c.args.loop_lengths.now c.args.h o) (lengths_of (length c.args.points.now) (length c.args.quads.now) (length c.args.front_nodes.now) (length c.args.front_lengths.now)) in
    let options : Options = options_of c.args.corner_margin c.args.min_edge_fraction c.args.front_gap c.args.max_row_rounds c.args.seam c.args.corner_limit in
    job_short call options _ refl _ _ _ _ _ c.args.counts.now c.in_default.ensures.cases (grind arith) (c.fill.ensures.after (λ y e. e))

pub returns : goal.returns
returns c =
    let call : Options → Left = λ o. sample_call (job c.args.coords.now c.args.loop_lengths.now c.args.h o) (lengths_of (length c.args.points.now) (length c.args.quads.now) (length c.args.front_nodes.now) (length c.args.front_lengths.now)) in
    job_answered call _ _ c.options_of-options.ensures _ _ _ _ _ c.args.counts.now c.in-Some.ensures.cases.long _ c.no_counts.ensures (answered c.sample-answer.result) (grind arith) (rw c.numbered.ensures at c.put_answer.ensures)
