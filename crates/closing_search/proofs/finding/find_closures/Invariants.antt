-- What closes the first `li` fronts is found, and the next one's nodes are at `start`.
use mathlib.Core.Path.{◌≡◌}
use lib.ListN.{length, take}
use Rattle.geometry.specs.Domain.{sum_of}
use Rattle.state.specs.State.{cut}
use Rattle.closing_search.proofs.Gathering.{Found}
use Rattle.closing_search.proofs.finding.find_closures.Given as goal

abbrev pub invariant-loop-li : goal.invariant-loop-li
invariant-loop-li l = record {
  found : Found l.limit l.fronts.points.now (cut l.fronts.lengths.now l.fronts.nodes.now) l.closures l.li;
  long : length l.closures ≡ 16;
  place : l.start ≡ sum_of (take l.li l.fronts.lengths.now);
}
