use mathlib.Core.Path.{sym, ◌∙◌}
use lib.Dec.{leb}
use lib.Seq.{take_all}
use Rattle.std.proofs.lemmas.List.Folds.{list_any_more}
use Rattle.state.proofs.Repeating.{some_is}
use Rattle.state.proofs.given.some_of.Goals as goal

pub loop-x-preserved : goal.loop-x-preserved
loop-x-preserved c =
    rw c.loop-x.invariant (sym (list_any_more (λ x. leb c.args.n x) c.args.numbers.now c.loop-x.x-index 0 c.loop-x-test.true))

pub returns : goal.returns
returns c =
    (rw (take_all c.loop-x.x-index c.args.numbers.now c.loop-x-test.false) at c.loop-x.invariant) ∙ sym (some_is (λ x. leb c.args.n x) c.args.numbers.now)
