-- `picture::plates::put_refusal` meets its contract.
use Rattle.input.specs.Job.{job_of}
use Rattle.fan_search.specs.Values.{boxed}
use Rattle.picture.proofs.Fitting.{outlined_fits}
use Rattle.text.proofs.Midst.{put_same}
use Rattle.picture.proofs.Plating.{outlined_is}
use native.Mathlib.Omega.{arith}
use Rattle.picture.proofs.plates.put_refusal.Goals as goal

pub invariant_of-outline : goal.invariant_of-outline
invariant_of-outline c = record { fits = c.requires.few.points }

pub put_outlined-requires : goal.put_outlined-requires
put_outlined-requires c =
    let few = c.requires.few in
    let h = outlined_fits (boxed c.around-frame.result.bounds) c.around-frame.result.margin c.args.job.now.coords.now c.args.job.now.loop_lengths.now c.args.n few in
    let g = c.requires.picture_room_in_bounds in
    omega arith

pub returns : goal.returns
returns c =
    let few = c.requires.few in
    let b = boxed c.around-frame.result.bounds in
    let m = c.around-frame.result.margin in
    let a = c.args in
    let h = outlined_fits b m a.job.now.coords.now a.job.now.loop_lengths.now a.n few in
    let w = c.put_outlined.ensures.put in
    let p = w.place in record {
      put = put_same (outlined_is b m (job_of a.job.now) c.around-frame.ensures.bounds c.around-frame.ensures.margin a.n) w;
      upper_bound = omega arith;
      same = c.put_outlined.ensures.same;
    }
