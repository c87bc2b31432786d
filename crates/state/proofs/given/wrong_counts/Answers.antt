-- `state::given::wrong_counts` meets its contract.
use mathlib.Core.Path.{sym, ◌∙◌}
use Rattle.std.proofs.Common.{◌≡◌, arith, rules, tests, ltb, take}
use Rattle.std.proofs.lemmas.Bool.Decides.{nat_tests}
use Rattle.std.proofs.lemmas.Iterator.{YieldsList-from_slice}
use Rattle.std.proofs.lemmas.Iterator.Search.{any_from_yields_List}
use Rattle.state.specs.Given.{some_below, wrong_counts}
use Rattle.state.proofs.Repeating.{some_is}
use Rattle.state.proofs.given.wrong_counts.Goals as goal

pub returns-then-is_full-clause-exact : goal.returns-then-is_full-clause-exact
unfolding wrong_counts
returns-then-is_full-clause-exact c = λ p q n. grind (arith, nat_tests)

pub returns-then-sum_of-gt2048-clause-exact : goal.returns-then-sum_of-gt2048-clause-exact
unfolding wrong_counts
returns-then-sum_of-gt2048-clause-exact c = λ p q n. grind (arith, nat_tests)

pub returns-else-sum_of-gt2048-clause-exact : goal.returns-else-sum_of-gt2048-clause-exact
unfolding wrong_counts
returns-else-sum_of-gt2048-clause-exact c =
    let sizes = take c.args.counts.fronts c.args.front_lengths.now in
    let short : c.any.result ≡ some_below 3 sizes = any_from_yields_List (λ x. ltb x 3) _ _ c.any.result c.any.ensures.ran (YieldsList-from_slice sizes cc) (λ x b q k. search (rules, tests)) ∙ sym (some_is (λ x. ltb x 3) sizes) in
    λ p q n. grind (arith, nat_tests)
