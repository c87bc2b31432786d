-- `tile_list::quads::passes` meets its contract.
use mathlib.Core.Path.{◌∙◌}
use Rattle.rules.specs.Checks.{quad_passes}
use Rattle.tile_list.proofs.quads.passes.Goals as goal

pub returns : goal.returns
unfolding quad_passes
returns c = c.corners_pass.ensures ∙ rw (c.node_point-a.ensures, c.node_point-b.ensures, c.node_point-c.ensures, c.node_point-d.ensures)
