-- `picture::plates::put_answer` meets its contract: a plate, or an outline.
use mathlib.Core.Path.{ap}
use Rattle.state.specs.Refusals.{answered}
use Rattle.input.specs.Job.{job_of}
use Rattle.answer_text.proofs.Pieces.{done_sound}
use Rattle.text.proofs.Midst.{put_same}
use Rattle.picture.proofs.Plating.{done_picture, refused_picture}
use Rattle.picture.proofs.plates.put_answer.Goals as goal

pub put_plate-requires-clause-sound : goal.put_plate-requires-clause-sound
put_plate-requires-clause-sound c =
    let b = c.args.lent.now in
    done_sound (answered c.args.answer) b.points.now b.quads.now b.front_nodes.now b.front_lengths.now c.in-Ok.counts (ap answered c.in-Ok.is) c.requires.sound_answer

pub returns-in-Ok-clause-put : goal.returns-in-Ok-clause-put
returns-in-Ok-clause-put c =
    let b = c.args.lent.now in
    put_same (done_picture (job_of c.args.job.now) (answered c.args.answer) b.points.now b.quads.now b.front_nodes.now b.front_lengths.now c.in-Ok.counts (ap answered c.in-Ok.is)) c.put_plate.ensures.put

pub returns-in-Err-clause-put : goal.returns-in-Err-clause-put
returns-in-Err-clause-put c =
    let b = c.args.lent.now in
    put_same (refused_picture (job_of c.args.job.now) (answered c.args.answer) b.points.now b.quads.now b.front_nodes.now b.front_lengths.now _ (ap answered c.in-Err.is)) (rw c.number.ensures at c.put_refusal.ensures.put)
