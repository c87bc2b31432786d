-- The four lent buffers, by what they hold. Definitions only.
use Rattle.std.specs.Prelude.{◌≡◌, length}
use Rattle.state.specs.declared.Counts.{Counts}
use Rattle.state.specs.declared.lent.Lent.{Lent}
use Rattle.state.specs.declared.held.Buffers.{Buffers}
use Rattle.state.specs.State.{Held, Lengths}
use Rattle.state.specs.Call.{held, lengths_of}

-- with the counts that the caller holds
abbrev pub held_in : Lent → Counts → Held
held_in b c = held b.points.now b.quads.now b.front_nodes.now b.front_lengths.now c

-- the same for buffers that are only read
abbrev pub held_of : Buffers → Counts → Held
held_of b c = held b.points.now b.quads.now b.front_nodes.now b.front_lengths.now c

abbrev pub lengths_in : Lent → Lengths
lengths_in b = lengths_of (length b.points.now) (length b.quads.now) (length b.front_nodes.now) (length b.front_lengths.now)

-- the same buffers, whatever they hold: a slice keeps its length
pub record Same (a b : Lent) : Type 0 where
  pub points : b.points.ghost_name ≡ a.points.ghost_name
  pub quads : b.quads.ghost_name ≡ a.quads.ghost_name
  pub front_nodes : b.front_nodes.ghost_name ≡ a.front_nodes.ghost_name
  pub front_lengths : b.front_lengths.ghost_name ≡ a.front_lengths.ghost_name
  pub points_long : length b.points.now ≡ length a.points.now
  pub quads_long : length b.quads.now ≡ length a.quads.now
  pub front_nodes_long : length b.front_nodes.now ≡ length a.front_nodes.now
  pub front_lengths_long : length b.front_lengths.now ≡ length a.front_lengths.now
