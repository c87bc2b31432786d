-- What a job and lent buffers have that number 1 does not refuse: proofs/Shape.antt shows it. Definitions only.
use Rattle.std.specs.Prelude.{◌≡◌, ◌*◌, ◌<◌, ◌≤◌, length}
use Rattle.geometry.specs.Domain.{sum_of}
use Rattle.state.specs.Limits.{front_limit, front_node_limit, points_length, quads_length}
use Rattle.state.specs.State.{Lengths}
use Rattle.input.specs.Job.{Job, loop_limit, pair_limit}

pub record Shaped (j : Job) (l : Lengths) : Type 0 where
  pub points : l.points ≡ points_length
  pub quads : l.quads ≡ quads_length
  pub nodes : l.front_nodes ≡ front_node_limit
  pub fronts : l.front_lengths ≡ front_limit
  pub some : 0 < length j.loops
  pub few : length j.loops ≤ loop_limit
  pub even : sum_of j.loops * 2 ≡ length j.coords
  pub small : length j.coords ≤ pair_limit * 2
