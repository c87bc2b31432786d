use mathlib.Core.Path.{refl}
use Rattle.std.proofs.lemmas.Result.{err_from_is_err_and}
use Rattle.state.proofs.Zeros.{same_state, still_sound, now_clean}
use Rattle.input.specs.Job.{accepted_of, job}
use Rattle.fan.proofs.Stepping.{refuses, lays, has_room, same_room}
use Rattle.fan.proofs.step.fan_one.Goals as goal

pub returns-in_err-centre-clause-left : goal.returns-in_err-centre-clause-left
returns-in_err-centre-clause-left c =
    let p = err_from_is_err_and c.from_residual.result c.from_residual.ensures.1 in
    λ h options. rw (p.1, p.2) (refuses _ (job c.args.job.now.outline.coords.now c.args.job.now.outline.loop_lengths.now h options) _ c.requires.sound c.requires.one _ c.in_err-centre.ensures)

pub lay_fan-after-requires : goal.lay_fan-after-requires
lay_fan-after-requires c =
    let s = c.requires.sound in
    let e = c.clear_behind.ensures.written in record {
      sound = still_sound _ s _ e;
      clean = now_clean _ s _ e;
      room = same_room _ s _ e refl (has_room _ (accepted_of c.args.job.now) _ s c.requires.one _ c.in_ok-centre.ensures c.requires.core_quads_bound);
    }

pub returns-clause-left : goal.returns-clause-left
returns-clause-left c =
    let s = c.requires.sound in
    λ h options. lays _ (job c.args.job.now.outline.coords.now c.args.job.now.outline.loop_lengths.now h options) _ s c.requires.one _ c.in_ok-centre.ensures _ (rw (same_state _ s _ c.clear_behind.ensures.written) at c.lay_fan-after.ensures.laid)
