-- `input::input::wrong_shape` meets its contract: its tests are the definition's, in its order.
use mathlib.Core.Path.{◌∙◌, sym}
use borrow.Author.Tests.{eq-eqb, ne_eqb, lt-ltb, le-ltb}
use Rattle.input.specs.Job.{wrong_shape}
use Rattle.input.proofs.input.wrong_shape.Goals as goal

pub returns-then-wrong_lengths : goal.returns-then-wrong_lengths
unfolding wrong_shape
returns-then-wrong_lengths c = rw (sym c.wrong_lengths.ensures ∙ c.if-wrong_lengths.true)

pub returns-then-loops-eq0 : goal.returns-then-loops-eq0
unfolding wrong_shape
returns-then-loops-eq0 c = rw (sym c.wrong_lengths.ensures ∙ c.if-wrong_lengths.false, eq-eqb _ _ c.if-loops-eq0.true)

pub returns-then-loops-gt16 : goal.returns-then-loops-gt16
unfolding wrong_shape
returns-then-loops-gt16 c =
    rw (sym c.wrong_lengths.ensures ∙ c.if-wrong_lengths.false, ne_eqb _ _ c.if-loops-eq0.false, lt-ltb _ _ c.if-loops-gt16.true)

pub returns-then-numbers-eq1 : goal.returns-then-numbers-eq1
unfolding wrong_shape
returns-then-numbers-eq1 c =
    rw (sym c.wrong_lengths.ensures ∙ c.if-wrong_lengths.false, ne_eqb _ _ c.if-loops-eq0.false, le-ltb _ _ c.if-loops-gt16.false, eq-eqb _ _ c.if-numbers-eq1.true)

pub returns-then-sum_of-pairs : goal.returns-then-sum_of-pairs
unfolding wrong_shape
returns-then-sum_of-pairs c =
    rw (sym c.wrong_lengths.ensures ∙ c.if-wrong_lengths.false, ne_eqb _ _ c.if-loops-eq0.false, le-ltb _ _ c.if-loops-gt16.false, ne_eqb _ _ c.if-numbers-eq1.false, rw c.sum_of.ensures at (ne_eqb _ _ c.if-sum_of-pairs.true))

pub returns : goal.returns
unfolding wrong_shape
returns c =
    rw (sym c.wrong_lengths.ensures ∙ c.if-wrong_lengths.false, ne_eqb _ _ c.if-loops-eq0.false, le-ltb _ _ c.if-loops-gt16.false, ne_eqb _ _ c.if-numbers-eq1.false, rw c.sum_of.ensures at (eq-eqb _ _ c.if-sum_of-pairs.false))
