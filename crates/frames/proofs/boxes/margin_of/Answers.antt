-- `frames::boxes::margin_of` meets its contract.
use Rattle.frames.specs.Views.{margin}
use Rattle.frames.proofs.Measures.{twentieth_is}
use Rattle.frames.proofs.boxes.margin_of.Goals as goal

pub returns : goal.returns
unfolding margin
returns c =
    rw (c.greater.ensures, twentieth_is)
