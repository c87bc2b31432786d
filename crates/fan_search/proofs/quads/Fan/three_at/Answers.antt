use Rattle.fan_search.proofs.Fanning.{three_is}
use Rattle.fan_search.proofs.quads.Fan.three_at.Goals as goal

pub returns : goal.returns
returns c =
    let fan = c.args.self.now in
    three_is fan.front.pts.now fan.front.nodes.now c.args.k _ _ _ _ c.requires fan.even (rw c.size-n.ensures at c.next_of-third.ensures.value) c.at.ensures c.at-2.ensures c.at-3.ensures
