-- What a step asks of lent buffers: the part of document 01's number 25 that makes every read and every write fall within them, and zeros behind the counts. Definitions only.
-- proofs/Sounding.antt shows the first of buffers that number 25 does not refuse; proofs/Fitting.antt shows both of a state that fits, written.
use Rattle.std.specs.Prelude.{◌≡◌, List, ℕ, ◌*◌, ◌<◌, ◌≤◌, length, get_or, take}
use Rattle.geometry.specs.Domain.{sum_of}
use Rattle.state.specs.Limits.{point_limit, quad_limit, front_limit, front_node_limit, points_length, quads_length}
use Rattle.state.specs.State.{Held, written, reading}

-- the lengths of the fronts, one after the other
abbrev pub sizes_of : Held → List ℕ
sizes_of b = take b.counts.fronts b.front_lengths

pub record Sound (b : Held) : Type 0 where
  pub points_long : length b.points ≡ points_length
  pub quads_long : length b.quads ≡ quads_length
  pub front_nodes_long : length b.front_nodes ≡ front_node_limit
  pub front_lengths_long : length b.front_lengths ≡ front_limit
  pub points : b.counts.points ≤ point_limit
  pub quads : b.counts.quads ≤ quad_limit
  pub fronts : b.counts.fronts ≤ front_limit
  pub front_nodes : sum_of (sizes_of b) ≤ front_node_limit
  pub below : (i : ℕ) → i < sum_of (sizes_of b) → get_or b.front_nodes i 0 < b.counts.points
  pub row_quads : b.counts.row_quads ≤ b.counts.quads
  pub row_rounds : 6 * b.counts.row_rounds ≤ b.counts.row_quads

-- the buffers hold what is read from them and zeros behind it
abbrev pub Clean : Held → Type 0
Clean b = b ≡ written (reading b)
