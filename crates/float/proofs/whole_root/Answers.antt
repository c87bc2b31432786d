use Rattle.std.proofs.Common.{arith}
use Rattle.float.proofs.Digits.{short, turn_one, turn_zero, ended}
use Rattle.float.proofs.whole_root.Goals as goal
use Rattle.float.proofs.whole_root.Goals.{else-odd-rest, then-odd-rest}

pub overflow_mul-rest : goal.overflow_mul-rest
overflow_mul-rest c = omega (arith, short _ _ _ _ _ c.loop.invariant)

pub overflow_add-rest : goal.overflow_add-rest
overflow_add-rest c = omega (arith, short _ _ _ _ _ c.loop.invariant)

pub overflow_mul-odd : goal.overflow_mul-odd
overflow_mul-odd c = omega (arith, short _ _ _ _ _ c.loop.invariant)

pub overflow_add-odd : goal.overflow_add-odd
overflow_add-odd c = omega (arith, short _ _ _ _ _ c.loop.invariant)

pub loop-preserved : goal.loop-preserved
loop-preserved c =
    let l = c.loop in
    elim c.if-odd-rest.branch [ then-odd-rest w ↦ rw (w.rest-is, w.q-is) (turn_one _ l.counter l.left l.rest l.q l.invariant c.loop-test.true w.if-odd-rest.true) | else-odd-rest w ↦ rw (w.rest-is, w.q-is) (turn_zero _ l.counter l.left l.rest l.q l.invariant c.loop-test.true w.if-odd-rest.false) ]

pub returns : goal.returns
returns c = ended _ _ _ _ _ c.requires c.loop.invariant c.loop-test.false
