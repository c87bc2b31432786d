-- `planning::plan::inner_of` meets its contract.
use native.Mathlib.Omega.{arith}
use Rattle.planning.proofs.Literals.{small_is}
use Rattle.planning.proofs.plan.inner_of.Goals as goal

pub returns-then-span-h : goal.returns-then-span-h
returns-then-span-h c = rw (rw small_is at c.if-span-h.true)

pub returns-else-span-h : goal.returns-else-span-h
returns-else-span-h c = rw (rw small_is at c.if-span-h.false, ← c.round_away.ensures) (omega arith)
