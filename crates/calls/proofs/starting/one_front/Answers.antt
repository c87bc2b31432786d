-- `calls::starting::one_front` meets its contract.
use mathlib.Core.Path.{◌≡◌}
use borrow.Author.Tests.{lt-ltb, le-ltb}
use lib.ListN.{length}
use Rattle.std.proofs.Common.{rules}
use Rattle.state.specs.Limits.{points_length}
use Rattle.state.specs.State.{no_counts}
use Rattle.calls.specs.Calls.{one_front}
use Rattle.calls.proofs.starting.one_front.Goals as goal

pub returns-then-coords-gt8192-clause-left : goal.returns-then-coords-gt8192-clause-left
unfolding one_front
returns-then-coords-gt8192-clause-left c = rw (lt-ltb points_length (length c.args.job.now.coords.now) c.if-coords-gt8192.true)

pub returns-clause-left : goal.returns-clause-left
unfolding one_front
returns-clause-left c =
    let none : c.default.result ≡ no_counts = search rules in
    rw (none, le-ltb points_length (length c.args.job.now.coords.now) c.if-coords-gt8192.false, c.put_all.ensures, c.put_numbers.ensures, c.from.ensures, c.from-2.ensures)
