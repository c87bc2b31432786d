use borrow.Author.Tests.{eq-eqb, ne_eqb}
use native.Mathlib.Omega.{arith}
use Rattle.geometry.proofs.points.next_of.Goals as goal

pub returns-then-j-n : goal.returns-then-j-n
returns-then-j-n c = record {
  value = simp (eq-eqb _ _ c.if-j-n.true);
  upper_bound = omega arith;
}

pub returns-else-j-n : goal.returns-else-j-n
returns-else-j-n c = record {
  value = simp (ne_eqb _ _ c.if-j-n.false);
  upper_bound = omega (arith, c.if-j-n.false);
}
