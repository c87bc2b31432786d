-- `shapes::rings::value_at` meets its contract.
use Rattle.std.proofs.Common.{arith, ◌∙◌}
use Rattle.shapes.proofs.Literals.{nan_is}
use Rattle.shapes.proofs.rings.value_at.Goals as goal

pub returns : goal.returns
returns c = c.unwrap_or.ensures ∙ rw (c.copied.ensures, nan_is) (c.get.ensures.lookup.4 (omega arith) _)
