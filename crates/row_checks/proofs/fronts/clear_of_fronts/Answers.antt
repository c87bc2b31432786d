use mathlib.Core.Path.{◌≡◌, refl, ◌∙◌, ap, sym}
use mathlib.Core.Bool.{Bool, true, false, ◌||◌}
use mathlib.Core.List.{List, []}
use Prim.Native.Nat.{ℕ, ◌+◌}
use native.Mathlib.Omega.{arith}
use lib.Dec.{eqb}
use lib.ListN.{length, get_or}
use Rattle.geometry.specs.Domain.{sum_of}
use Rattle.state.specs.State.{cut}
use Rattle.rules.specs.Checks.{all_clear_of}
use Rattle.rules.proofs.Every.{every_none, every_more, every_stops, every_end, seen}
use Rattle.state.proofs.Cutting.{total_more, total_within, part_is, length_cut}
use Rattle.row_checks.proofs.fronts.clear_of_fronts.Goals as goal

pub loop-other-init : goal.loop-other-init
unfolding sum_of
loop-other-init c = (refl, every_none _)

pub ring-front-requires : goal.ring-front-requires
ring-front-requires c =
    let w = total_within c.args.fronts.now.lengths.now c.loop-other.other (omega arith) in let h = c.loop-other.invariant.0 in let e = c.from-len.ensures in omega arith

pub returns-then-not-own_or_clear : goal.returns-then-not-own_or_clear
returns-then-not-own_or_clear c =
    let a = c.args in let f = a.fronts.now in let row = a.row.now in let l = f.lengths.now in let xs = f.nodes.now in
    let e = part_is l xs c.loop-other.other (omega arith) f.fits _ _ _ c.loop-other.invariant.0 c.from-len.ensures c.ring-front.ensures.nodes in
    let p : ℕ → Bool = λ k. eqb k a.li || all_clear_of f.points.now (get_or (cut l xs) k []) a.least row.pts.now row.n in
    let g : p c.loop-other.other ≡ false = seen (λ (x : List ℕ). eqb c.loop-other.other a.li || all_clear_of f.points.now x a.least row.pts.now row.n) (rw c.ring-front.ensures.points at c.own_or_clear.ensures) e (c.if-not-own_or_clear.true) in
    rw (length_cut l xs) (every_stops p c.loop-other.other (length l) (omega arith) g)

pub loop-other-preserved : goal.loop-other-preserved
loop-other-preserved c =
    let a = c.args in let f = a.fronts.now in let row = a.row.now in let l = f.lengths.now in let xs = f.nodes.now in
    let e = part_is l xs c.loop-other.other (omega arith) f.fits _ _ _ c.loop-other.invariant.0 c.from-len.ensures c.ring-front.ensures.nodes in
    let p : ℕ → Bool = λ k. eqb k a.li || all_clear_of f.points.now (get_or (cut l xs) k []) a.least row.pts.now row.n in
    let g : p c.loop-other.other ≡ true = seen (λ (x : List ℕ). eqb c.loop-other.other a.li || all_clear_of f.points.now x a.least row.pts.now row.n) (rw c.ring-front.ensures.points at c.own_or_clear.ensures) e (c.if-not-own_or_clear.false) in
    (ap (λ t. c.loop-other.start + t) c.from-len.ensures ∙ ap (λ t. t + get_or l c.loop-other.other 0) c.loop-other.invariant.0 ∙ sym (total_more l c.loop-other.other (omega arith)), every_more p c.loop-other.other c.loop-other.invariant.1 g)

pub returns : goal.returns
returns c =
    let a = c.args in let f = a.fronts.now in let row = a.row.now in let l = f.lengths.now in let xs = f.nodes.now in
    let p : ℕ → Bool = λ k. eqb k a.li || all_clear_of f.points.now (get_or (cut l xs) k []) a.least row.pts.now row.n in
    let e : c.loop-other.other ≡ length l = omega arith in
    rw (length_cut l xs) (every_end p c.loop-other.other (length l) c.loop-other.invariant.1 e)

pub overflow_add-start : goal.overflow_add-start
overflow_add-start c =
    let w = total_within c.args.fronts.now.lengths.now c.loop-other.other (omega arith) in let h = c.loop-other.invariant.0 in let e = c.from-len.ensures in omega arith
