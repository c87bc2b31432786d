use native.Mathlib.Omega.{arith}
use Rattle.input.specs.Job.{job}
use Rattle.fan.proofs.Stepping.{no_front, several}
use Rattle.fan.proofs.step.fan_fill.Goals as goal

pub returns-in-0-clause-left : goal.returns-in-0-clause-left
returns-in-0-clause-left c = λ h options. no_front _ (job _ _ h options) _ c.requires.sound c.in-0.is _ c.clear_behind.ensures.written

pub returns-in_default-clause-left : goal.returns-in_default-clause-left
returns-in_default-clause-left c = λ h options. several _ (job _ _ h options) _ c.requires.sound (omega arith)
