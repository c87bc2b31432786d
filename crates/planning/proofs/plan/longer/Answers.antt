-- `planning::plan::longer` meets its contract.
use mathlib.Core.Path.{refl}
use Rattle.float.proofs.Literals.{zero_is}
use Rattle.planning.proofs.plan.longer.Goals as goal
use Rattle.planning.proofs.plan.longer.Goals.{else-span-via-then-span+else-best-length, else-span-via-else-span}

pub returns-then-best-length : goal.returns-then-best-length
returns-then-best-length c = rw (rw zero_is at c.if-span.true, c.if-best-length.true) (refl, refl)

pub returns-else-span : goal.returns-else-span
returns-else-span c =
    elim c.else-span.branch [
      | else-span-via-then-span+else-best-length w ↦ rw (rw zero_is at w.if-span.true, w.if-best-length.false) (refl, refl)
      | else-span-via-else-span w ↦ rw (rw zero_is at w.if-span.false) (refl, refl)
    ]
