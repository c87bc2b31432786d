use mathlib.Core.Path.{◌≡◌, refl, sym, ◌∙◌}
use Prim.Native.Nat.{◌+◌}
use lib.Ieee.{binary64, of_bits}
use native.Mathlib.Omega.{arith}
use Rattle.geometry.specs.Rings.{Ring}
use Rattle.geometry.specs.Measures.{area_sum, signed_area}
use Rattle.float.proofs.Literals.{zero_is}
use Rattle.geometry.proofs.Literals.{half_zero_is, two_is}
use Rattle.geometry.proofs.Steps.{all_added, none_added, one_added}
use Rattle.geometry.proofs.rings.signed_area.Goals as goal

no-area : (r : Ring) → r.size ≡ 0 → of_bits binary64 0 ≡ signed_area r
unfolding signed_area area_sum
no-area r e = zero_is ∙ sym half_zero_is ∙ rw e

pub returns-then-n-eq0 : goal.returns-then-n-eq0
returns-then-n-eq0 g c = no-area _ (sym c.size-n.ensures ∙ c.if-n-eq0.true)

pub loop-i-init : goal.loop-i-init
loop-i-init g c = (omega arith, omega (arith, c.if-n-eq0.false), none_added _ _ _ c.at-first.ensures zero_is)

pub loop-i-preserved : goal.loop-i-preserved
loop-i-preserved g c =
    let inv = c.loop-i.invariant in
    let i = c.loop-i.i in
    let one = one_added inv.2 inv.0 (i + 1) _ _ refl (omega arith) c.at-b.ensures c.area_term.ensures in
    let two = one_added one (omega arith) (i + 2) _ _ (omega arith) (omega arith) c.at-c.ensures c.area_term-in-loop-i.ensures in
    (omega arith, omega arith, one_added two (omega arith) _ _ _ (omega arith) (omega arith) c.at-d.ensures c.area_term-in-loop-i-2.ensures)

pub returns-then-i-n : goal.returns-then-i-n
unfolding signed_area
returns-then-i-n g c =
    let inv = c.loop-i.invariant in
    rw (two_is, all_added inv.2 inv.0 _ _ (c.if-i-n.true ∙ c.size-n.ensures) c.at-first.ensures c.area_term-then-i-n.ensures)

pub loop-j-preserved : goal.loop-j-preserved
loop-j-preserved g c =
    one_added c.loop-j.invariant (omega arith) _ _ _ refl (rw c.size-n.ensures at c.loop-j-test.true) c.at-b-in-loop-j.ensures c.area_term-sum.ensures

pub returns : goal.returns
unfolding signed_area
returns g c =
    let j = c.loop-j.auto.j-end (omega arith) in
    rw (two_is, all_added c.loop-j.invariant (omega arith) _ _ (omega arith) c.at-first.ensures c.area_term-2.ensures)
