use Rattle.float.proofs.Literals.{zero_is}
use Rattle.geometry.proofs.Literals.{two_is}
use Rattle.geometry.specs.Measures.{quad_area}
use Rattle.geometry.proofs.corners.quad_area.Goals as goal

pub returns : goal.returns
unfolding quad_area
returns c =
    rw (c.area_term.ensures, c.area_term-2.ensures, c.area_term-3.ensures, c.area_term-4.ensures, zero_is, two_is)
