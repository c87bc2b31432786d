use native.Mathlib.Omega.{arith}
use lib.ListN.{length-set}
use Rattle.text.specs.Decimal.{decimal_text}
use Rattle.text.proofs.Digits.{decimal_down, decimal_top, tens, ones, a_digit}
use Rattle.text.proofs.writer.Writer.decimal.Goals as goal

pub loop-i-preserved : goal.loop-i-preserved
loop-i-preserved c =
    let loop = c.loop-i in
    let w = c.args.self.now in
    let h = tens loop.rest (omega arith) in
    let next = decimal_down w.out.now loop.self.out.now (decimal_text c.args.n) w.at loop.i loop.rest loop.invariant.0 h (omega arith) loop.invariant.3 in
    (next.0, simp length-set (omega arith), simp length-set loop.invariant.2, next.1, loop.invariant.4, loop.invariant.5)

pub overflow_cast-self-2 : goal.overflow_cast-self-2
overflow_cast-self-2 c = let h = ones c.loop-i.rest (omega arith) (omega arith) in omega arith

pub overflow_add-self-2 : goal.overflow_add-self-2
overflow_add-self-2 c = let h = ones c.loop-i.rest (omega arith) (omega arith) in omega arith

pub bounds-self-self : goal.bounds-self-self
bounds-self-self c = let l = a_digit 19 c.args.n in omega arith

pub returns-clause-put : goal.returns-clause-put
returns-clause-put c =
    let loop = c.loop-i in
    let w = c.args.self.now in
    record {
      bytes = rw loop.invariant.4 (decimal_top w.out.now loop.self.out.now (decimal_text c.args.n) w.at loop.rest (ones loop.rest (omega arith) (omega arith)) loop.invariant.3);
      place = omega arith;
    }
