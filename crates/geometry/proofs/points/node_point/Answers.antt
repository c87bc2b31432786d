use Rattle.geometry.proofs.points.node_point.Goals as goal

pub returns : goal.returns
returns c = rw (c.point_at.ensures, c.from-node.ensures)
