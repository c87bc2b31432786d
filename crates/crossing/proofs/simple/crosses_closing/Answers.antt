-- `crossing::simple::crosses_closing` meets its contract.
use mathlib.Core.Path.{refl, sym}
use native.Mathlib.Omega.{arith}
use borrow.Author.Tests.{eq-eqb, ne_eqb}
use Prim.Native.Nat.{◌+◌, ◌-◌}
use Rattle.geometry.specs.Rings.{Ring, next}
use Rattle.pairs.proofs.Sides.{next_inner}
use Rattle.crossing.proofs.Searching.{closes, sides-cross}
use Rattle.crossing.proofs.simple.crosses_closing.Goals as goal

pub returns-then-i-eq0 : goal.returns-then-i-eq0
returns-then-i-eq0 g c =
    rw (eq-eqb c.args.i 0 c.if-i-eq0.true)

pub returns : goal.returns
returns g c =
    let i = c.args.i in
    let r : Ring = g.R.Ring.ring c.args.ring.now in
    let next-is = next_inner r.size i {k = next r.size i} (omega arith) refl c.requires in
    rw (ne_eqb i 0 c.if-i-eq0.false)
    (sides-cross r i (r.size - 1) (i + 1) 0 _ _ _ _ _ c.segments_cross.ensures c.at-a.ensures c.at-b.ensures (sym next-is) (rw c.size-n.ensures at c.at-c.ensures) c.at-d.ensures (closes r.size (omega (arith, c.requires))))
