-- `plate_text::put_job` meets its contract: the answer of the job, from buffers of the right lengths.
use mathlib.Core.Path.{◌≡◌, ◌∙◌, ap}
use Rattle.state.proofs.Lending.{lent_long}
use Rattle.state.specs.Call.{lent}
use Rattle.state.specs.Lent.{lengths_in}
use Rattle.text.proofs.Midst.{put_same}
use Rattle.answer_text.specs.AnswerText.{answer_text}
use Rattle.plate_text.proofs.Answering.{answer_sound}
use Rattle.plate_text.proofs.put_job.Goals as goal

pub put_answer-requires-clause-sound_answer : goal.put_answer-requires-clause-sound_answer
put_answer-requires-clause-sound_answer c =
    let long : lengths_in c.job-answer.new.lent ≡ lent = lent_long c.job-answer.ensures.same ∙ c.lend-lent.ensures.long in
    let read = c.read.ensures in
    rw (c.numbered.ensures, read.points, read.quads, read.front_nodes, read.front_lengths) (answer_sound _ _ _ _ _ _ c.job-answer.ensures.left long)

pub returns-clause-put : goal.returns-clause-put
returns-clause-put c =
    let same = rw c.lend-lent.ensures.long at c.job-answer.ensures.left in
    let read = c.read.ensures in
    put_same (ap answer_text same) (rw (c.numbered.ensures, read.points, read.quads, read.front_nodes, read.front_lengths) at c.put_answer.ensures.put)
