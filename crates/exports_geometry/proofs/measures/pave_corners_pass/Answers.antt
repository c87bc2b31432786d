-- `exports_geometry::measures::pave_corners_pass` meets its contract: the limit is the constant.
use Rattle.exports_geometry.proofs.measures.pave_corners_pass.Goals as goal

pub returns : goal.returns
returns c = rw c.default_limit.ensures at c.corners_pass.ensures
