-- `float::whole_root` meets its contract. The invariant is `Turned`.
use Rattle.float.proofs.Digits.{Turned}
use Rattle.float.proofs.whole_root.Given as goal

abbrev pub invariant-loop : goal.invariant-loop
invariant-loop l = Turned l.a l.counter l.left l.rest l.q
