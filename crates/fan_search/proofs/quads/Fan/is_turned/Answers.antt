use mathlib.Core.Path.{◌∙◌}
use Rattle.float.proofs.Literals.{zero_is}
use Rattle.fan_search.proofs.Fanning.{area_is}
use Rattle.fan_search.proofs.quads.Fan.is_turned.Goals as goal

pub returns : goal.returns
returns c =
    let fan = c.args.self.now in
    rw (zero_is, c.quad_area.ensures ∙ area_is fan.front.pts.now fan.centre fan.whole fan.front.nodes.now fan.front.named c.args.k c.requires fan.even _ c.three_at.ensures)
