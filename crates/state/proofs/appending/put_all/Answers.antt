-- `state::appending::put_all` meets its contract.
use mathlib.Core.Path.{sym}
use lib.ListN.{length-set}
use Rattle.state.proofs.Growing.{copied}
use Rattle.state.proofs.appending.put_all.Goals as goal

pub loop-i-preserved : goal.loop-i-preserved
loop-i-preserved g c =
    let next = copied c.args.buffer.now c.args.more.now c.loop-i.buffer c.args.at c.loop-i.i c.index-more-i.result c.loop-i.invariant.1 c.loop-i-test.true in
    (simp length-set c.loop-i.invariant.0, rw (sym c.index-more-i.is) at next)
