-- `sampling::call::sample_accepted` meets its contract: the loops, or zeros.
use mathlib.Core.Path.{◌∙◌, ap}
use Rattle.state.specs.State.{zeros}
use Rattle.input.specs.Job.{accepted_of}
use Rattle.state.proofs.Lending.{lent_long}
use Rattle.sampling.proofs.Calling.{sampled_refused}
use Rattle.sampling.proofs.call.sample_accepted.Goals as goal

pub returns-in-Err-clause-left : goal.returns-in-Err-clause-left
returns-in-Err-clause-left c =
    sampled_refused (accepted_of c.args.job.now) _ _ _ _ _ _ (c.clear.ensures.cleared ∙ ap zeros (lent_long c.put_loops.ensures.same)) c.in-Err.ensures.refused

pub returns-in-Ok-clause-left : goal.returns-in-Ok-clause-left
returns-in-Ok-clause-left c = c.in-Ok.ensures.given
