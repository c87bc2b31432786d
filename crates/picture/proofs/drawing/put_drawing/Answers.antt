-- `picture::drawing::put_drawing` meets its contract, by what was read.
use mathlib.Core.Path.{ap, ◌∙◌}
use native.Mathlib.Omega.{arith}
use Rattle.picture.specs.Picture.{job_picture}
use Rattle.text.proofs.Midst.{put_same}
use Rattle.captions.proofs.Lengths.{words_length}
use Rattle.picture.proofs.Texts.{refused, job_few, job-drawn}
use Rattle.picture.proofs.drawing.put_drawing.Goals as goal

pub put_job-requires : goal.put_job-requires
put_job-requires c = record {
  picture_room_in_bounds = c.requires;
  few = rw (ap (λ j. j.coords) c.job.ensures, ap (λ j. j.loops) c.job.ensures) (job_few _ _ c.in-Ok.ensures.read);
}

pub put_words-requires : goal.put_words-requires
put_words-requires c =
    let h = words_length c.number.result in
    let g = c.requires in
    omega arith

pub returns-in-Ok-clause-put : goal.returns-in-Ok-clause-put
returns-in-Ok-clause-put c =
    put_same (ap job_picture c.job.ensures ∙ job-drawn _ _ c.in-Ok.ensures.read) c.put_job.ensures.put

pub returns-in-Err : goal.returns-in-Err
returns-in-Err c =
    let h = words_length c.number.result in
    let w = c.put_words.ensures.put in
    let p = w.place in record {
      put = put_same (refused _ c.in-Err.error c.in-Err.ensures.read) (rw c.number.ensures at w);
      upper_bound = omega arith;
      same = c.put_words.ensures.same;
    }
