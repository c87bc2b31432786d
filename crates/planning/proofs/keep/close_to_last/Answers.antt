-- `planning::keep::close_to_last` meets its contract.
use mathlib.Core.Path.{◌≡◌}
use borrow.Author.Tests.{lt-ltb}
use Rattle.planning.specs.Ring.{close}
use Rattle.planning.proofs.keep.close_to_last.Goals as goal

pub returns-then-m-gt0 : goal.returns-then-m-gt0
returns-then-m-gt0 c =
    let is : c.close.result ≡ close c.args.limit c.point_at.result c.args.p = c.close.ensures in
    rw (lt-ltb 0 c.args.m c.if-m-gt0.true, is, c.point_at.ensures)
