-- `input::input::wrong_options` meets its contract: its tests are the definition's, in its order.
use mathlib.Core.Path.{◌≡◌, ◌∙◌, sym}
use mathlib.Core.Bool.{false}
use borrow.Author.Tests.{lt-ltb, le-ltb}
use Rattle.float.specs.Helpers.{decimal}
use Rattle.state.specs.Coordinates.{outside}
use Rattle.input.specs.Job.{wrong_options}
use Rattle.float.proofs.Literals.{zero_is, one_is}
use Rattle.input.proofs.Literals.{hundred_is, milli_is, million_is, fiftieth_is, nine_tenths_is}
use Rattle.input.proofs.input.wrong_options.Goals as goal

pub returns-then-outside : goal.returns-then-outside
unfolding wrong_options
returns-then-outside c = rw (rw (milli_is, million_is) at (sym c.outside.ensures ∙ c.if-outside.true))

pub returns-then-outside-2 : goal.returns-then-outside-2
unfolding wrong_options
returns-then-outside-2 c =
    let size_in : outside (decimal 1 3) (decimal 1000000 0) c.args.h ≡ false = rw (milli_is, million_is) at (sym c.outside.ensures ∙ c.if-outside.false) in
    rw (size_in, rw (zero_is, hundred_is) at (sym c.outside-2.ensures ∙ c.if-outside-2.true))

pub returns-then-outside-3 : goal.returns-then-outside-3
unfolding wrong_options
returns-then-outside-3 c =
    let size_in : outside (decimal 1 3) (decimal 1000000 0) c.args.h ≡ false = rw (milli_is, million_is) at (sym c.outside.ensures ∙ c.if-outside.false) in
    let margin-in : outside (decimal 0 0) (decimal 100 0) c.args.options.corner_margin ≡ false = rw (zero_is, hundred_is) at (sym c.outside-2.ensures ∙ c.if-outside-2.false) in
    rw (size_in, margin-in, rw (zero_is, hundred_is) at (sym c.outside-3.ensures ∙ c.if-outside-3.true))

pub returns-then-outside-4 : goal.returns-then-outside-4
unfolding wrong_options
returns-then-outside-4 c =
    let size_in : outside (decimal 1 3) (decimal 1000000 0) c.args.h ≡ false = rw (milli_is, million_is) at (sym c.outside.ensures ∙ c.if-outside.false) in
    let margin-in : outside (decimal 0 0) (decimal 100 0) c.args.options.corner_margin ≡ false = rw (zero_is, hundred_is) at (sym c.outside-2.ensures ∙ c.if-outside-2.false) in
    let gap-in : outside (decimal 0 0) (decimal 100 0) c.args.options.front_gap ≡ false = rw (zero_is, hundred_is) at (sym c.outside-3.ensures ∙ c.if-outside-3.false) in
    rw (size_in, margin-in, gap-in, rw (zero_is, one_is) at (sym c.outside-4.ensures ∙ c.if-outside-4.true))

pub returns-then-options-gt64 : goal.returns-then-options-gt64
unfolding wrong_options
returns-then-options-gt64 c =
    let size_in : outside (decimal 1 3) (decimal 1000000 0) c.args.h ≡ false = rw (milli_is, million_is) at (sym c.outside.ensures ∙ c.if-outside.false) in
    let margin-in : outside (decimal 0 0) (decimal 100 0) c.args.options.corner_margin ≡ false = rw (zero_is, hundred_is) at (sym c.outside-2.ensures ∙ c.if-outside-2.false) in
    let gap-in : outside (decimal 0 0) (decimal 100 0) c.args.options.front_gap ≡ false = rw (zero_is, hundred_is) at (sym c.outside-3.ensures ∙ c.if-outside-3.false) in
    let edge_in : outside (decimal 0 0) (decimal 1 0) c.args.options.min_edge_fraction ≡ false = rw (zero_is, one_is) at (sym c.outside-4.ensures ∙ c.if-outside-4.false) in
    rw (size_in, margin-in, gap-in, edge_in, lt-ltb _ _ c.if-options-gt64.true)

pub returns-then-options : goal.returns-then-options
unfolding wrong_options
returns-then-options c =
    let size_in : outside (decimal 1 3) (decimal 1000000 0) c.args.h ≡ false = rw (milli_is, million_is) at (sym c.outside.ensures ∙ c.if-outside.false) in
    let margin-in : outside (decimal 0 0) (decimal 100 0) c.args.options.corner_margin ≡ false = rw (zero_is, hundred_is) at (sym c.outside-2.ensures ∙ c.if-outside-2.false) in
    let gap-in : outside (decimal 0 0) (decimal 100 0) c.args.options.front_gap ≡ false = rw (zero_is, hundred_is) at (sym c.outside-3.ensures ∙ c.if-outside-3.false) in
    let edge_in : outside (decimal 0 0) (decimal 1 0) c.args.options.min_edge_fraction ≡ false = rw (zero_is, one_is) at (sym c.outside-4.ensures ∙ c.if-outside-4.false) in
    rw (size_in, margin-in, gap-in, edge_in, le-ltb _ _ c.if-options-gt64.false, c.if-options.true)

pub returns : goal.returns
unfolding wrong_options
returns c =
    let size_in : outside (decimal 1 3) (decimal 1000000 0) c.args.h ≡ false = rw (milli_is, million_is) at (sym c.outside.ensures ∙ c.if-outside.false) in
    let margin-in : outside (decimal 0 0) (decimal 100 0) c.args.options.corner_margin ≡ false = rw (zero_is, hundred_is) at (sym c.outside-2.ensures ∙ c.if-outside-2.false) in
    let gap-in : outside (decimal 0 0) (decimal 100 0) c.args.options.front_gap ≡ false = rw (zero_is, hundred_is) at (sym c.outside-3.ensures ∙ c.if-outside-3.false) in
    let edge_in : outside (decimal 0 0) (decimal 1 0) c.args.options.min_edge_fraction ≡ false = rw (zero_is, one_is) at (sym c.outside-4.ensures ∙ c.if-outside-4.false) in
    rw (size_in, margin-in, gap-in, edge_in, le-ltb _ _ c.if-options-gt64.false, c.if-options.false)
    (rw (fiftieth_is, nine_tenths_is) at c.outside-5.ensures)
