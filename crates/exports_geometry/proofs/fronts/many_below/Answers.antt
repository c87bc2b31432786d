use Rattle.exports_geometry.proofs.Nodes.{all_tested, one_tested}
use Rattle.exports_geometry.proofs.fronts.many_below.Goals as goal

pub loop-m-preserved : goal.loop-m-preserved
loop-m-preserved c = one_tested c.args.n c.args.numbers.now _ _ c.loop-m.below c.loop-m.invariant c.loop-m-test.true

pub returns : goal.returns
returns c = all_tested _ _ _ _ _ c.loop-m.invariant c.loop-m-test.false
