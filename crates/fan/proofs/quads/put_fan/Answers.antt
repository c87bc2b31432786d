use mathlib.Core.Path.{refl}
use Rattle.fan.proofs.Filling.{fan_none, fan_more}
use Rattle.fan.proofs.quads.put_fan.Goals as goal

pub loop-k-init : goal.loop-k-init
loop-k-init c = rw fan_none

pub loop-k-preserved : goal.loop-k-preserved
loop-k-preserved c =
    fan_more _ _ _ c.args.at _ _ _ c.loop-k.k _ _ _ _ _ _ c.loop-k-test.true c.args.fan.now.even c.loop-k.invariant c.put_turned.ensures c.is_turned-turned.ensures c.next_of-third.ensures.value c.narrow-centre.ensures refl refl refl
