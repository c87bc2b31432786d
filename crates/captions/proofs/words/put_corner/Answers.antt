-- `captions::words::put_corner` meets its contract.
use Rattle.shapes.proofs.Numbers.{nothing}
use Rattle.captions.proofs.Tests.{corner_none, corner_some}
use Rattle.captions.proofs.words.put_corner.Goals as goal

pub returns-else-quads-ne0-clause-put : goal.returns-else-quads-ne0-clause-put
returns-else-quads-ne0-clause-put c =
    nothing _ _ (corner_none c.args.quads c.args.least c.if-quads-ne0.false)

pub put_least-requires : goal.put_least-requires
put_least-requires c =
    rw (corner_some c.args.quads c.args.least c.if-quads-ne0.true) at c.requires

pub returns-then-quads-ne0-clause-put : goal.returns-then-quads-ne0-clause-put
returns-then-quads-ne0-clause-put c =
    rw (corner_some c.args.quads c.args.least c.if-quads-ne0.true) c.put_least.ensures.put
