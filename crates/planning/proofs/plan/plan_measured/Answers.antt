use mathlib.Core.Path.{◌≡◌, refl, ap}
use Prim.Native.Nat.{ℕ, ◌+◌, ◌<◌}
use native.Mathlib.Omega.{arith}
use lib.Ieee.{nan, neg}
use lib.ListN.{length, get_or}
use Rattle.float.proofs.Literals.{one_is}
use Rattle.state.proofs.Stores.{table_rest}
use Rattle.planning.proofs.Planning.{at_first, one_side}
use Rattle.planning.proofs.plan.plan_measured.Goals as goal

pub loop-i-init : goal.loop-i-init
loop-i-init c =
    (omega arith, λ k q l. refl, λ m r w. at_first c.args.h m r c.args.n _ _ _ w c.requires.0 (ap neg one_is))

pub loop-i-preserved : goal.loop-i-preserved
loop-i-preserved c =
    let l = c.loop-i in
    let more = c.loop-i-test.true in
    let room : l.i < length l.spans = omega arith in (
      omega (arith, c.capped-sum.ensures),
      table_rest l.spans nan (λ (k : ℕ). get_or c.args.spans.now k nan) l.i _ _ l.invariant.1,
      λ m r w.
          one_side c.args.h m r c.args.n l.i _ _ _ _ _ _ _ _ _ _ _ _ _ _ _ l.spans w more room refl l.invariant.1 (l.invariant.2 m r w) c.next_of.ensures.value c.margin_behind-end.ensures refl c.span_of-span.ensures
          c.inner_of.ensures c.capped-sum.ensures c.longer-best.ensures.0 c.longer-best.ensures.1,
    )

pub returns : goal.returns
returns c =
    let l = c.loop-i in
    let e : l.i ≡ c.args.n = omega arith in
    λ m r w.
    let s = l.invariant.2 m r w in
    (ap (λ (k : ℕ). c.args.n + k) (rw e at s.sum_is), rw e at s.side_is, rw e at s.spans_are)
