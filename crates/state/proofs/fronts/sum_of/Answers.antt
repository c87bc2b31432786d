-- `state::fronts::sum_of` meets its contract.
use mathlib.Core.Path.{◌≡◌, refl, sym, ◌∙◌}
use Rattle.std.proofs.Common.{rules}
use Rattle.std.specs.List.{sum_by}
use Rattle.std.proofs.lemmas.List.Recursion.{is_sum_by}
use Rattle.geometry.specs.Domain.{sum_of}
use Rattle.state.proofs.fronts.sum_of.Goals as goal

pub returns : goal.returns
unfolding sum_of
returns c =
    let e : c.sum.result ≡ sum_by (λ x. x) c.args.lengths.now = search rules in
    e ∙ sym (is_sum_by sum_of (λ x. x) refl (λ _ _. refl) c.args.lengths.now)
