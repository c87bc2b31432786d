use native.Mathlib.Omega.{arith}
use mathlib.Core.Path.{◌≡◌}
use lib.ListN.{length}
use Rattle.float.proofs.Literals.{zero_is}
use Rattle.geometry.specs.Measures.{front_length, length_sum}
use Rattle.geometry.proofs.Steps.{length_step}
use Rattle.geometry.proofs.rings.front_length.Goals as goal

pub loop-i-init : goal.loop-i-init
unfolding length_sum
loop-i-init g c = zero_is

pub loop-i-preserved : goal.loop-i-preserved
loop-i-preserved g c =
    length_step _ _ _ _ (record { first = c.at-a.ensures; second = rw (← c.size-n.ensures, ← c.next_of.ensures.value) c.at-b.ensures }) _ _ c.loop-i.invariant c.side_length-sum.ensures

pub returns : goal.returns
unfolding front_length
returns g c =
    let e : c.loop-i.i ≡ (g.R.Ring.ring c.args.ring.now).size = omega (arith, c.size-n.ensures) in
    rw (c.loop-i.invariant, e)
