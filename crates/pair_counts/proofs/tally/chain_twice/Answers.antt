-- `pair_counts::tally::chain_twice` meets its contract: the counts give the test.
use mathlib.Core.Path.{◌∙◌}
use Rattle.state.specs.Limits.{point_limit}
use Rattle.pair_counts.proofs.Tallies.{tallied_two}
use Rattle.pair_counts.proofs.Walking.{chain_small}
use Rattle.pair_counts.proofs.tally.chain_twice.Goals as goal

pub returns : goal.returns
returns c = record {
  value = c.all_two-r.ensures ∙ tallied_two point_limit c.count.new.tally _ c.count.ensures (chain_small _ _ _ c.args.chain.walk);
  tally_after = c.clear.ensures;
}
