-- `answer_text::answer::put_answer` meets its contract: the text of a state or of a refusal.
use mathlib.Core.Path.{ap}
use Rattle.state.specs.Refusals.{told}
use Rattle.answer_text.proofs.Pieces.{done_sound, done_text, refused_text_lem}
use Rattle.answer_text.proofs.answer.put_answer.Goals as goal

pub put_held-requires : goal.put_held-requires
put_held-requires c =
    let a = c.args in record {
      text_limit_in_bounds = c.requires.text_limit_in_bounds;
      sound = done_sound (told a.answer) a.held.now.points.now a.held.now.quads.now a.held.now.front_nodes.now a.held.now.front_lengths.now c.in-Ok.counts (ap told c.in-Ok.is) c.requires.sound_answer;
    }

pub returns-in-Ok : goal.returns-in-Ok
returns-in-Ok c =
    let a = c.args in record {
      put = rw (done_text (told a.answer) a.held.now.points.now a.held.now.quads.now a.held.now.front_nodes.now a.held.now.front_lengths.now c.in-Ok.counts (ap told c.in-Ok.is)) at c.put_held.ensures.put;
      upper_bound = c.put_held.ensures.upper_bound;
      same = c.put_held.ensures.same;
    }

pub returns-in-Err : goal.returns-in-Err
returns-in-Err c =
    let a = c.args in record {
      put = rw (refused_text_lem (told a.answer) a.held.now.points.now a.held.now.quads.now a.held.now.front_nodes.now a.held.now.front_lengths.now _ (ap told c.in-Err.is)) at c.put_refused.ensures.put;
      upper_bound = c.put_refused.ensures.upper_bound;
      same = c.put_refused.ensures.same;
    }
