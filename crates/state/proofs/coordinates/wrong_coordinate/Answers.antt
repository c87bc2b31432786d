use Rattle.state.proofs.Walk.{one_more, none_left}
use Rattle.state.proofs.coordinates.wrong_coordinate.Goals as goal

pub loop-x-preserved : goal.loop-x-preserved
loop-x-preserved c = one_more _ _ _ _ c.loop-x.wrong _ c.loop-x.invariant c.loop-x-test.true c.wrong_number-wrong.ensures

pub returns : goal.returns
returns c = none_left _ _ _ _ c.loop-x.invariant c.loop-x-test.false
