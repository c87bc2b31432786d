-- `picture::plates::put_plate` meets its contract. The box, the margin, and what is read from the buffers.
use Rattle.state.specs.State.{Held}
use Rattle.state.specs.Lent.{held_in}
use Rattle.input.specs.Job.{job_of}
use Rattle.state.specs.Sound.{Sound}
use Rattle.fan_search.specs.Values.{boxed}
use Rattle.picture.proofs.Fitting.{paved_fits}
use Rattle.text.proofs.Midst.{put_same}
use Rattle.picture.proofs.Plating.{read_is, plated_is}
use native.Mathlib.Omega.{arith}
use Rattle.picture.proofs.plates.put_plate.Goals as goal

pub invariant_of-outline : goal.invariant_of-outline
invariant_of-outline c = record { fits = c.requires.few.points }

pub put_paved-requires : goal.put_paved-requires
put_paved-requires c =
    let given : Held = held_in c.args.lent.now c.args.counts in
    let sound : Sound given = c.requires.sound in
    let few = c.requires.few in
    let h = paved_fits (boxed c.around-frame.result.bounds) c.around-frame.result.margin c.args.job.now.coords.now c.args.job.now.loop_lengths.now given few sound in
    let g = c.requires.picture_room_in_bounds in
    let f = c.fronts-fronts.ensures in
    rw (read_is (boxed c.around-frame.result.bounds) c.around-frame.result.margin c.args.job.now.coords.now c.args.job.now.loop_lengths.now given sound f.points f.nodes f.lengths) (omega arith)

pub returns : goal.returns
returns c =
    let given : Held = held_in c.args.lent.now c.args.counts in
    let sound : Sound given = c.requires.sound in
    let few = c.requires.few in
    let b = boxed c.around-frame.result.bounds in
    let m = c.around-frame.result.margin in
    let a = c.args in
    let h = paved_fits b m a.job.now.coords.now a.job.now.loop_lengths.now given few sound in
    let f = c.fronts-fronts.ensures in
    let w = put_same (read_is b m a.job.now.coords.now a.job.now.loop_lengths.now given sound f.points f.nodes f.lengths) c.put_paved.ensures.put in
    let p = w.place in record {
      put = put_same (plated_is b m (job_of a.job.now) c.around-frame.ensures.bounds c.around-frame.ensures.margin a.lent.now.points.now a.lent.now.quads.now a.lent.now.front_nodes.now a.lent.now.front_lengths.now a.counts) w;
      upper_bound = omega arith;
      same = c.put_paved.ensures.same;
    }
