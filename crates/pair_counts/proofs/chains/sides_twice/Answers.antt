-- `pair_counts::chains::sides_twice` meets its contract.
use mathlib.Core.Path.{◌∙◌}
use Rattle.pair_counts.proofs.Linking.{linked_twice}
use Rattle.pair_counts.proofs.chains.sides_twice.Goals as goal

pub returns : goal.returns
returns c =
    c.chains_twice.ensures ∙ linked_twice c.args.lows.now c.args.highs.now c.link.new.behind c.link.new.first c.link.ensures
