use mathlib.Core.Path.{◌≡◌, sym, ◌∙◌}
use Rattle.std.proofs.Common.{rules}
use Rattle.std.specs.List.{sum_by}
use Rattle.std.proofs.lemmas.List.Concat.{length-flat_map}
use lib.ListN.{length}
use Rattle.closing_search.specs.Closures.{closure_quads}
use Rattle.closing.proofs.laying.count_quads.Goals as goal

pub returns : goal.returns
returns c =
    let e : c.sum.result ≡ sum_by (λ x. length (closure_quads x)) c.args.closures.now = search rules in
    e ∙ sym (length-flat_map closure_quads c.args.closures.now)
