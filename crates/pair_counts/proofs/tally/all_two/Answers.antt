-- `pair_counts::tally::all_two` meets its contract.
use mathlib.Core.Bool.{Bool}
use mathlib.Core.List.{List}
use lib.Dec.{eqb}
use lib.ListN.{get_or}
use mathlib.Core.Path.{refl, ◌∙◌}
use Prim.Native.Nat.{ℕ, ◌<◌}
use borrow.Author.Rules.{rules}
use Rattle.std.proofs.lemmas.Iterator.Adapters.{serves_from_places}
use Rattle.std.proofs.lemmas.Iterator.Consumers.{YieldsList-from_first}
use Rattle.std.proofs.lemmas.Iterator.Search.{all_from_yields_List}
use Rattle.state.specs.Limits.{point_limit}
use Rattle.pair_counts.specs.Chains.{chain}
use Rattle.pair_counts.proofs.Walking.{place_small}
use Rattle.pair_counts.proofs.Tallies.{of_each}
use Rattle.pair_counts.proofs.tally.all_two.Goals as goal

-- the test of a count
abbrev is_two : List ℕ → ℕ → Bool
is_two tally v = eqb (get_or tally v 0) 2

pub all-requires-clause-callable : goal.all-requires-clause-callable
all-requires-clause-callable c =
    let s = c.args.chain in
    serves_from_places (YieldsList-from_first (λ x. x) (λ t. chain t.behind.now t.highs.now t.place) _ refl) (λ x q k. search rules) (λ x k l e. let w : x < point_limit = rw e (place_small s.highs.now s.behind.now s.place s.walk k x l) in search (rules, w, c.requires))

pub returns : goal.returns
returns c =
    all_from_yields_List (is_two c.args.tally.now) c.all.new.self _ _ c.all.ensures.ran (YieldsList-from_first (λ x. x) (λ t. chain t.behind.now t.highs.now t.place) _ refl) (λ x b q k. search rules)
    ∙ of_each (is_two c.args.tally.now) _
