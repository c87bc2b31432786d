-- `input::input::wrong_lengths` meets its contract: its tests are the definition's, in its order.
use borrow.Author.Tests.{eq-eqb, ne_eqb}
use Rattle.input.specs.Job.{wrong_lengths}
use Rattle.input.proofs.input.wrong_lengths.Goals as goal

pub returns-then-points-ne8192 : goal.returns-then-points-ne8192
unfolding wrong_lengths
returns-then-points-ne8192 c = simp (ne_eqb _ _ c.if-points-ne8192.true)

pub returns-then-quads-ne16384 : goal.returns-then-quads-ne16384
unfolding wrong_lengths
returns-then-quads-ne16384 c = simp (eq-eqb _ _ c.if-points-ne8192.false, ne_eqb _ _ c.if-quads-ne16384.true)

pub returns-then-front_nodes-ne2048 : goal.returns-then-front_nodes-ne2048
unfolding wrong_lengths
returns-then-front_nodes-ne2048 c = simp (eq-eqb _ _ c.if-points-ne8192.false, eq-eqb _ _ c.if-quads-ne16384.false, ne_eqb _ _ c.if-front_nodes-ne2048.true)

pub returns : goal.returns
unfolding wrong_lengths
returns c = simp (eq-eqb _ _ c.if-points-ne8192.false, eq-eqb _ _ c.if-quads-ne16384.false, eq-eqb _ _ c.if-front_nodes-ne2048.false)
