-- `loop_text::put_sampled` meets its contract.
use mathlib.Core.Path.{◌∙◌, ap}
use native.Mathlib.Omega.{arith}
use lib.Seq.{length-take-le}
use Rattle.state.specs.State.{no_counts}
use Rattle.state.specs.Lent.{held_in}
use Rattle.state.specs.Refusals.{answered}
use Rattle.state.specs.Sound.{Sound}
use Rattle.text.proofs.Midst.{put_same}
use Rattle.loop_text.specs.SampledText.{loop_lines}
use Rattle.loop_text.proofs.Sampling.{done_sound, done_lines, refused_lines}
use Rattle.loop_text.proofs.put_sampled.Goals as goal

pub fronts-loops-requires : goal.fronts-loops-requires
fronts-loops-requires c = done_sound _ _ _ _ _ _ _ _ _ _ c.sample.ensures.left c.in-Ok.counts (ap answered c.in-Ok.is)

pub put_lines-requires : goal.put_lines-requires
put_lines-requires c =
    let b : Sound (held_in c.sample.new.lent c.in-Ok.counts) = done_sound _ _ _ _ _ _ _ _ _ _ c.sample.ensures.left c.in-Ok.counts (ap answered c.in-Ok.is) in
    let few = b.fronts in
    let long = b.front_lengths_long in
    let total = b.front_nodes in
    let nodes = b.front_nodes_long in
    let f = c.fronts-loops.ensures in
    (c.requires, rw (f.lengths, length-take-le c.in-Ok.counts.fronts c.sample.new.lent.front_lengths.now (omega arith)) few, rw f.lengths total, rw (f.lengths, f.nodes) (omega arith))

pub returns-in-Ok-clause-put : goal.returns-in-Ok-clause-put
returns-in-Ok-clause-put c =
    let same = c.sample.ensures.left in
    put_same (done_lines _ _ _ _ _ c.in-Ok.counts (ap answered c.in-Ok.is) ∙ ap loop_lines same) (rw (c.fronts-loops.ensures.lengths, c.fronts-loops.ensures.nodes) at c.put_lines.ensures.put)

pub returns-in-Err-clause-put : goal.returns-in-Err-clause-put
returns-in-Err-clause-put c =
    let same = c.sample.ensures.left in
    put_same (refused_lines _ (held_in c.sample.new.lent no_counts) _ (ap answered c.in-Err.is) ∙ ap loop_lines same) (rw c.number.ensures at c.put_refused.ensures.put)
