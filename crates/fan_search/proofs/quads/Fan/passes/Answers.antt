use Rattle.float.proofs.Literals.{zero_is}
use Rattle.fan_search.proofs.Fanning.{turned_passes, plain_passes}
use Rattle.fan_search.proofs.quads.Fan.passes.Goals as goal

pub returns-then-quad_area : goal.returns-then-quad_area
returns-then-quad_area c =
    let fan = c.args.self.now in
    turned_passes fan.front.pts.now fan.centre fan.whole fan.front.nodes.now fan.front.named c.args.k c.requires fan.even _ c.three_at.ensures _ c.quad_area.ensures _ _ (rw zero_is at c.if-quad_area.true) c.corners_pass.ensures

pub returns : goal.returns
returns c =
    let fan = c.args.self.now in
    plain_passes fan.front.pts.now fan.centre fan.whole fan.front.nodes.now fan.front.named c.args.k c.requires fan.even _ c.three_at.ensures _ c.quad_area.ensures _ _ (rw zero_is at c.if-quad_area.false) c.corners_pass-2.ensures
