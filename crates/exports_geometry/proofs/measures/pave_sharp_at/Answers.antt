-- `exports_geometry::measures::pave_sharp_at` meets its contract: the test before the call decides.
use mathlib.Core.Path.{refl}
use borrow.Author.Tests.{le-ltb, lt-ltb}
use Rattle.exports_geometry.specs.Measures.{sharp_or_not}
use Rattle.exports_geometry.proofs.measures.pave_sharp_at.Goals as goal

pub returns-then-i-ring : goal.returns-then-i-ring
unfolding sharp_or_not
returns-then-i-ring c =
    let all = c.all-ring.ensures in
    let within = rw all.count at c.if-i-ring.true in
    rw (lt-ltb _ _ within) (rw (all.points, all.count) at c.sharp_at.ensures)

pub returns : goal.returns
unfolding sharp_or_not
returns c = rw (← c.all-ring.ensures.count, le-ltb _ _ c.if-i-ring.false) refl
