-- `input::Job::check_with` meets its contract: its tests are the definition's, in its order.
use mathlib.Core.Path.{◌∙◌, sym}
use native.Mathlib.Nat.{le_of_eq}
use borrow.Author.Tests.{lt-ltb, le-ltb}
use Rattle.input.specs.Job.{input_number}
use Rattle.state.specs.Outcome.{first_true}
use Rattle.float.proofs.Literals.{zero_is}
use Rattle.input.proofs.Literals.{million_is}
use Rattle.input.proofs.Shape.{shaped}
use Rattle.input.proofs.Job.check_with.Goals as goal

pub returns-then-wrong_shape-clause-value : goal.returns-then-wrong_shape-clause-value
unfolding input_number first_true
returns-then-wrong_shape-clause-value c =
    rw (sym c.wrong_shape.ensures ∙ c.if-wrong_shape.true)

pub returns-then-wrong_size-clause-value : goal.returns-then-wrong_size-clause-value
unfolding input_number first_true
returns-then-wrong_size-clause-value c =
    rw (sym c.wrong_shape.ensures ∙ c.if-wrong_shape.false, sym c.wrong_size.ensures ∙ c.if-wrong_size.true)

pub returns-then-wrong_options-clause-value : goal.returns-then-wrong_options-clause-value
unfolding input_number first_true
returns-then-wrong_options-clause-value c =
    rw (sym c.wrong_shape.ensures ∙ c.if-wrong_shape.false, sym c.wrong_size.ensures ∙ c.if-wrong_size.false, sym c.wrong_options.ensures ∙ c.if-wrong_options.true)

pub bounds-loop_lengths-0 : goal.bounds-loop_lengths-0
bounds-loop_lengths-0 c =
    (shaped _ _ (sym c.wrong_shape.ensures ∙ c.if-wrong_shape.false)).some

pub returns-then-loop_lengths-lt3-clause-value : goal.returns-then-loop_lengths-lt3-clause-value
unfolding input_number first_true
returns-then-loop_lengths-lt3-clause-value c =
    rw (sym c.wrong_shape.ensures ∙ c.if-wrong_shape.false, sym c.wrong_size.ensures ∙ c.if-wrong_size.false, sym c.wrong_options.ensures ∙ c.if-wrong_options.false, lt-ltb _ _ c.if-loop_lengths-lt3.true)

pub returns-then-wrong_coordinate-clause-value : goal.returns-then-wrong_coordinate-clause-value
unfolding input_number first_true
returns-then-wrong_coordinate-clause-value c =
    rw (sym c.wrong_shape.ensures ∙ c.if-wrong_shape.false, sym c.wrong_size.ensures ∙ c.if-wrong_size.false, sym c.wrong_options.ensures ∙ c.if-wrong_options.false, le-ltb _ _ c.if-loop_lengths-lt3.false, rw million_is at (sym c.wrong_coordinate.ensures ∙ c.if-wrong_coordinate.true))

pub invariant_of-outline : goal.invariant_of-outline
invariant_of-outline c =
    record { fits = le_of_eq (shaped _ _ (sym c.wrong_shape.ensures ∙ c.if-wrong_shape.false)).even }

pub returns-then-area-clause-value : goal.returns-then-area-clause-value
unfolding input_number first_true
returns-then-area-clause-value c =
    rw (sym c.wrong_shape.ensures ∙ c.if-wrong_shape.false, sym c.wrong_size.ensures ∙ c.if-wrong_size.false, sym c.wrong_options.ensures ∙ c.if-wrong_options.false, le-ltb _ _ c.if-loop_lengths-lt3.false, rw million_is at (sym c.wrong_coordinate.ensures ∙ c.if-wrong_coordinate.false), rw (zero_is, c.area.ensures) at c.if-area.true)

pub returns-clause-value : goal.returns-clause-value
unfolding input_number first_true
returns-clause-value c =
    rw (sym c.wrong_shape.ensures ∙ c.if-wrong_shape.false, sym c.wrong_size.ensures ∙ c.if-wrong_size.false, sym c.wrong_options.ensures ∙ c.if-wrong_options.false, le-ltb _ _ c.if-loop_lengths-lt3.false, rw million_is at (sym c.wrong_coordinate.ensures ∙ c.if-wrong_coordinate.false), rw (zero_is, c.area.ensures) at c.if-area.false)
