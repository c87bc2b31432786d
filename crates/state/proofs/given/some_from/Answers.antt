-- `state::given::some_from` meets its contract: the chunks, and what is left behind them.
use mathlib.Core.Path.{◌≡◌, sym, ◌∙◌, ap}
use Prim.Native.Nat.{◌/◌}
use borrow.Author.Rules.{rules}
use lib.ListN.{length}
use Rattle.std.specs.List.{list_any}
use Rattle.std.specs.Simd.{first_chunks}
use Rattle.std.proofs.lemmas.Iterator.{YieldsList-from_slice}
use Rattle.std.proofs.lemmas.Iterator.Search.{any_from_yields_List}
use Rattle.state.specs.Given.{some_from}
use Rattle.state.proofs.Repeating.{from_chunks}
use Rattle.state.proofs.given.some_from.Goals as goal

pub returns-then-any : goal.returns-then-any
returns-then-any c =
    let n = c.args.n in
    let xs = c.args.numbers.now in
    let k = length xs / 64 in
    let any : c.any.result ≡ list_any (some_from n) (first_chunks 64 k xs) =
    any_from_yields_List (some_from n) _ _ _ c.any.ensures.ran (YieldsList-from_slice (first_chunks 64 k xs) (search rules)) (λ x b q e. search rules) in
    let whole = from_chunks n 64 k xs in
    c.if-any.true ∙ (rw (sym any, c.if-any.true) at whole)

pub returns-else-any : goal.returns-else-any
returns-else-any c =
    let n = c.args.n in
    let xs = c.args.numbers.now in
    let k = length xs / 64 in
    let any : c.any.result ≡ list_any (some_from n) (first_chunks 64 k xs) =
    any_from_yields_List (some_from n) _ _ _ c.any.ensures.ran (YieldsList-from_slice (first_chunks 64 k xs) (search rules)) (λ x b q e. search rules) in
    let whole = from_chunks n 64 k xs in
    (rw c.narrow-n.ensures at c.some_of.ensures) ∙ ap (some_from n) c.as_chunks.ensures.back ∙ (rw (sym any, c.if-any.false) at whole)
