use mathlib.Core.Path.{refl}
use native.Mathlib.Omega.{arith}
use lib.ListN.{length-set}
use Rattle.text.specs.Hex.{hex_text}
use Rattle.text.proofs.Digits.{hex_down, hex_top, length_hex}
use Rattle.text.proofs.writer.Writer.hex.Goals as goal

pub loop-i-init : goal.loop-i-init
loop-i-init c = let l = length_hex 16 c.args.bits in (omega arith, refl, refl, refl, refl)

pub loop-i-preserved : goal.loop-i-preserved
loop-i-preserved c =
    let loop = c.loop-i in
    let w = loop.self in
    (simp length-set (omega arith), simp length-set loop.invariant.1, hex_down c.args.self.now.out.now w.out.now (hex_text c.args.bits) w.at loop.i loop.rest _ (omega arith) c.hex_digit.ensures loop.invariant.2, loop.invariant.3, loop.invariant.4)

pub returns-clause-put : goal.returns-clause-put
returns-clause-put c =
    let loop = c.loop-i in
    let l = length_hex 16 c.args.bits in
    record {
      bytes = rw loop.invariant.3 at (hex_top c.args.self.now.out.now loop.self.out.now (hex_text c.args.bits) loop.self.at loop.i loop.rest (omega arith) loop.invariant.2);
      place = omega arith;
    }
