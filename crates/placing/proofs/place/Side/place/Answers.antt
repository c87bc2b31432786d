use mathlib.Core.Path.{◌≡◌, refl, ◌∙◌}
use native.Mathlib.Omega.{arith}
use Rattle.placing.specs.Placing.{betweens}
use Rattle.placing.proofs.Placing.{between_step}
use Rattle.placing.proofs.place.Side.place.Goals as goal

pub loop-j-init : goal.loop-j-init
unfolding betweens
loop-j-init c = refl

pub loop-j-preserved : goal.loop-j-preserved
loop-j-preserved c =
    c.put_point.ensures ∙ between_step c.args.self.a c.args.self.b c.args.self.length c.args.self.margin c.args.self.span c.args.self.parts _ _ c.args.at c.loop-j.j _ c.loop-j.invariant c.point-p.ensures

pub returns : goal.returns
returns c =
    let e : c.loop-j.j ≡ c.args.self.parts = omega arith in
    rw e at c.loop-j.invariant
