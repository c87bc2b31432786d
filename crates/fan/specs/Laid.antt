-- A fan that stands, laid: the state after it, and what laying it asks beyond sound and clean buffers. Definitions only.
use Rattle.std.specs.Prelude.{◌≡◌, ℕ, ◌+◌, ◌/◌, ◌%◌, ◌≤◌, List, [], ◌++◌, length, get_or}
use Rattle.geometry.specs.declared.Point.{Point}
use Rattle.state.specs.Limits.{point_limit, quad_limit}
use Rattle.state.specs.State.{State, Held, nodes}
use Rattle.state.specs.Sound.{sizes_of}
use Rattle.rules.specs.Fan.{fan_quads}
use Rattle.fan_search.specs.Quads.{with_centre}

-- the state that `fanned` gives, with the centre p
unfoldable pub laid_fan : State → List ℕ → Point → State
laid_fan s f p =
    let all = with_centre s.points p in
    record {
      points = all;
      quads = s.quads ++ fan_quads all f (nodes s) (length f / 2);
      fronts = [];
      row_quads = s.row_quads;
      core_quads = s.core_quads + length f / 2;
      row_rounds = s.row_rounds;
      passes = s.passes;
      laid = s.laid;
    }

-- one front, of an even number of nodes, and room for the centre and the quads; no more quads are the core's than there are
pub record Room (b : Held) : Type 0 where
  pub front : b.counts.fronts ≡ 1
  pub even : get_or (sizes_of b) 0 0 % 2 ≡ 0
  pub points : b.counts.points + 1 ≤ point_limit
  pub quads : b.counts.quads + get_or (sizes_of b) 0 0 / 2 ≤ quad_limit
  pub core : b.counts.core_quads ≤ b.counts.quads
