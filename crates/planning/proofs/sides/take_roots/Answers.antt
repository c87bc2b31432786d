use mathlib.Core.Path.{◌≡◌, ◌∙◌, ap}
use Prim.Native.Nat.{ℕ, ◌<◌}
use native.Mathlib.Nat.{le_refl}
use native.Mathlib.Omega.{arith}
use lib.Ieee.{nan}
use lib.ListN.{length, get_or, take, get_or-append}
use lib.Seq.{length-take-le, get_or-take}
use Rattle.float.specs.Root.{root}
use Rattle.state.proofs.Stores.{table_step, table_rest}
use Rattle.planning.proofs.sides.take_roots.Goals as goal

pub loop-x-preserved : goal.loop-x-preserved
loop-x-preserved c =
    let l = c.loop-x in
    let part = take c.args.n c.args.s.now in
    let room : l.x-index < length l.x-items = omega arith in (
      table_rest l.x-items nan (λ (k : ℕ). get_or part k nan) l.x-index _ _ l.invariant.0,
      table_step l.x-items nan (λ (k : ℕ). root (get_or part k nan)) l.x-index _ room l.invariant.1 (c.root.ensures ∙ ap root (l.invariant.0 l.x-index (le_refl l.x-index) c.loop-x-test.true)),
    )

pub returns : goal.returns
returns c = λ i g.
    let s = c.args.s.now in
    let long : length (take c.args.n s) ≡ c.args.n = length-take-le c.args.n s c.requires in
    let below : i < length c.loop-x.x-items = omega arith in
    get_or-append c.loop-x.x-items _ nan i below ∙ c.loop-x.invariant.1 i (omega arith) ∙ ap root (get_or-take c.args.n s i nan g)
