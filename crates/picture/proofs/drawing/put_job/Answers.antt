-- `picture::drawing::put_job` meets its contract.
use mathlib.Core.Path.{◌≡◌, ◌∙◌, ap}
use native.Mathlib.Omega.{arith}
use Rattle.state.proofs.Lending.{lent_long}
use Rattle.state.specs.Call.{lent}
use Rattle.state.specs.Lent.{lengths_in}
use Rattle.input.specs.Job.{job_of}
use Rattle.captions.proofs.Lengths.{words_length}
use Rattle.picture.specs.Plates.{answer_picture}
use Rattle.text.proofs.Midst.{put_same}
use Rattle.plate_text.proofs.Answering.{answer_sound}
use Rattle.picture.proofs.Texts.{no_point, some-point}
use Rattle.picture.proofs.drawing.put_job.Goals as goal

pub put_words-requires : goal.put_words-requires
put_words-requires c =
    let h = words_length c.number.result in
    let g = c.requires.picture_room_in_bounds in
    omega arith

pub returns-then-job-eq0 : goal.returns-then-job-eq0
returns-then-job-eq0 c =
    let h = words_length c.number.result in
    let w = rw c.number.ensures at c.put_words.ensures.put in
    let p = c.put_words.ensures.put.place in record {
      put = put_same (no_point (job_of c.args.job.now) c.if-job-eq0.true) w;
      upper_bound = omega arith;
      same = c.put_words.ensures.same;
    }

pub put_answer-requires-clause-sound_answer : goal.put_answer-requires-clause-sound_answer
put_answer-requires-clause-sound_answer c =
    let long : lengths_in c.job-answer.new.lent ≡ lent = lent_long c.job-answer.ensures.same ∙ c.lend-lent.ensures.long in
    answer_sound _ _ _ _ _ _ c.job-answer.ensures.left long

pub returns-clause-put : goal.returns-clause-put
returns-clause-put c =
    let j = job_of c.args.job.now in
    let same = rw c.lend-lent.ensures.long at c.job-answer.ensures.left in
    put_same (ap (answer_picture j) same ∙ some-point j c.if-job-eq0.false) c.put_answer.ensures.put
