-- `best` is the best of the first i splits.
use mathlib.Core.Path.{◌≡◌}
use Rattle.rules.specs.Closing.{best_split}
use Rattle.closing_search.specs.Closures.{split_of}
use Rattle.closing_search.proofs.front.close_six.Given as goal

abbrev pub invariant-loop-i : goal.invariant-loop-i
invariant-loop-i l = split_of l.best ≡ best_split l.limit l.front.pts.now l.front.nodes.now l.i
