-- `sampling::call::sample` meets its contract.
use mathlib.Core.Path.{◌∙◌}
use Rattle.state.specs.Lent.{lengths_in}
use Rattle.state.proofs.Refusing.{number_nonzero}
use Rattle.input.specs.Job.{job_of}
use Rattle.input.proofs.Shape.{shape_of}
use Rattle.sampling.proofs.Calling.{input_refused, sampled_call}
use Rattle.sampling.proofs.call.sample.Goals as goal

pub returns-in-Err-clause-left : goal.returns-in-Err-clause-left
returns-in-Err-clause-left c =
    input_refused _ _ _ _ _ _ _ c.clear.ensures.cleared c.in-Err.ensures.value (number_nonzero c.in-Err.refusal)

pub sample_accepted-requires : goal.sample_accepted-requires
sample_accepted-requires c = shape_of _ c.in-Ok.ensures.same c.in-Ok.ensures.value

pub returns-in-Ok-clause-left : goal.returns-in-Ok-clause-left
returns-in-Ok-clause-left c =
    rw c.in-Ok.ensures.same at c.sample_accepted.ensures.left ∙ sampled_call (job_of c.args.job.now) (lengths_in c.args.lent.now) c.in-Ok.ensures.value
