use mathlib.Core.Path.{◌≡◌, sym, ◌∙◌}
use mathlib.Core.Bool.{false, ◌||◌}
use Prim.Native.Nat.{ℕ, ◌%◌, ◌≤◌}
use borrow.Author.Tests.{lt-ltb, le-ltb, eq-eqb, ne_eqb}
use lib.Dec.{ltb, eqb}
use lib.ListN.{length}
use Rattle.float.proofs.Literals.{zero_is}
use Rattle.geometry.specs.Domain.{rings}
use Rattle.fan_search.proofs.Deciding.{wrong_front, no_clearance, too_many, one_fails, all_stand}
use Rattle.fan_search.proofs.trial.try_fan.Goals as goal
use Rattle.fan_search.proofs.trial.try_fan.Goals.{then-n-lt4-via-then-n-lt4, then-n-lt4-via-else-n-lt4+then-n-eq1, then-not-is_finite-via-then-not-is_finite, then-not-is_finite-via-else-not-is_finite+then-clearance}

-- both tests fail
right : (n : ℕ) → 4 ≤ n → (n % 2 ≡ 1 → ⊥) → (ltb n 4 || eqb (n % 2) 1) ≡ false
right n h g = rw (le-ltb _ _ h, ne_eqb _ 1 g)

pub returns-then-n-lt4 : goal.returns-then-n-lt4
returns-then-n-lt4 c =
    let loops = rings c.args.outline.now.coords.now c.args.outline.now.loop_lengths.now in
    let front = c.args.front.now in
    wrong_front c.args.limit loops front.pts.now front.nodes.now c.args.quads (elim c.then-n-lt4.branch [
      | then-n-lt4-via-then-n-lt4 w ↦ rw (lt-ltb _ _ w.if-n-lt4.true)
      | then-n-lt4-via-else-n-lt4+then-n-eq1 w ↦ rw (le-ltb _ _ w.if-n-lt4.false, eq-eqb (length c.args.front.now.nodes.now % 2) 1 w.if-n-eq1.true)
    ])

pub returns-then-not-is_finite : goal.returns-then-not-is_finite
returns-then-not-is_finite c =
    let loops = rings c.args.outline.now.coords.now c.args.outline.now.loop_lengths.now in
    let front = c.args.front.now in
    no_clearance c.args.limit loops front.pts.now front.nodes.now c.args.quads (right _ c.if-n-lt4.false c.if-n-eq1.false) c.centre_of-clearance.result c.centre_of-clearance.ensures _ c.is_finite.ensures (elim c.then-not-is_finite.branch [
      | then-not-is_finite-via-then-not-is_finite w ↦ rw w.if-not-is_finite.true
      | then-not-is_finite-via-else-not-is_finite+then-clearance w ↦ rw (w.if-not-is_finite.false, rw zero_is at w.if-clearance.true)
    ])

pub returns-then-is_full : goal.returns-then-is_full
returns-then-is_full c =
    let loops = rings c.args.outline.now.coords.now c.args.outline.now.loop_lengths.now in
    let front = c.args.front.now in
    too_many c.args.limit loops front.pts.now front.nodes.now c.args.quads (right _ c.if-n-lt4.false c.if-n-eq1.false) c.centre_of-clearance.result c.centre_of-clearance.ensures _ c.is_finite.ensures (rw (c.if-not-is_finite.false, rw zero_is at c.if-clearance.false)) (sym c.is_full.ensures ∙ c.if-is_full.true)

pub returns-then-not-all_pass : goal.returns-then-not-all_pass
returns-then-not-all_pass c =
    let loops = rings c.args.outline.now.coords.now c.args.outline.now.loop_lengths.now in
    let front = c.args.front.now in
    one_fails c.args.limit loops front.pts.now front.nodes.now c.args.quads (right _ c.if-n-lt4.false c.if-n-eq1.false) c.centre_of-clearance.result c.centre_of-clearance.ensures _ c.is_finite.ensures (rw (c.if-not-is_finite.false, rw zero_is at c.if-clearance.false)) (sym c.is_full.ensures ∙ c.if-is_full.false) _ c.all_pass.ensures c.if-not-all_pass.true

pub returns : goal.returns
returns c =
    let loops = rings c.args.outline.now.coords.now c.args.outline.now.loop_lengths.now in
    let front = c.args.front.now in
    all_stand c.args.limit loops front.pts.now front.nodes.now c.args.quads (right _ c.if-n-lt4.false c.if-n-eq1.false) c.centre_of-clearance.result c.centre_of-clearance.ensures _ c.is_finite.ensures (rw (c.if-not-is_finite.false, rw zero_is at c.if-clearance.false)) (sym c.is_full.ensures ∙ c.if-is_full.false) _ c.all_pass.ensures c.if-not-all_pass.false
