-- `calls::making::make_all` meets its contract.
use Rattle.std.proofs.Common.{◌∙◌, get_or, rules}
use Rattle.state.specs.State.{Held}
use Rattle.state.specs.Lent.{held_in}
use Rattle.state.specs.Refusals.{answered}
use Rattle.input.specs.Job.{Job, job_of}
use Rattle.calls.specs.Calls.{after}
use Rattle.calls.proofs.Stepping.{letter_is, stepped, all_made}
use Rattle.calls.proofs.making.make_all.Goals as goal

pub loop-letter-preserved : goal.loop-letter-preserved
loop-letter-preserved g c =
    let j : Job = job_of c.args.job.now in
    let at_head : Held = held_in c.loop-letter.lent c.loop-letter.counts in
    let whole : Held = after j c.args.letters.now (held_in c.args.lent.now c.args.start) in
    let k = c.loop-letter.letter-index in
    record {
      same = search rules;
      made = stepped j c.args.letters.now k at_head (answered c.make-answer.result) _ _ _ _ c.counts_after-counts.result whole c.loop-letter-test.true
          (c.make-answer.ensures.left ∙ letter_is j (get_or c.args.letters.now k 0) at_head c.from.result c.from.ensures) c.counts_after-counts.ensures c.loop-letter.invariant.made;
    }

pub returns : goal.returns
returns g c =
    let j : Job = job_of c.args.job.now in record {
      same = c.loop-letter.invariant.same;
      held = all_made j c.args.letters.now c.loop-letter.letter-index (held_in c.loop-letter.lent c.loop-letter.counts) (after j c.args.letters.now (held_in c.args.lent.now c.args.start)) c.loop-letter-test.false c.loop-letter.invariant.made;
    }
