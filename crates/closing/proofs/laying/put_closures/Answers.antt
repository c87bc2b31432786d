use mathlib.Core.Path.{refl}
use native.Mathlib.Omega.{arith}
use Rattle.std.proofs.lemmas.List.Folds.{length-flat_map-take}
use Rattle.state.specs.State.{joined}
use Rattle.closing_search.specs.declared.front.Closure.TheVariants.{Kept}
use Rattle.closing_search.specs.Closures.{closure_quads}
use Rattle.closing.proofs.Quads.{put_more, place_more, put_all}
use Rattle.closing.proofs.laying.put_closures.Goals as goal

pub loop-closure-init : goal.loop-closure-init
unfolding joined
loop-closure-init c = record { stands = refl; place = omega arith }

pub put_closure-requires : goal.put_closure-requires
put_closure-requires c =
    let w = length-flat_map-take closure_quads c.args.closures.now c.loop-closure.closure-index Kept c.loop-closure-test.true in
    let place = c.loop-closure.invariant.place in
    omega arith

pub overflow_add-place : goal.overflow_add-place
overflow_add-place c =
    let w = length-flat_map-take closure_quads c.args.closures.now c.loop-closure.closure-index Kept c.loop-closure-test.true in
    let place = c.loop-closure.invariant.place in
    let n = c.count.ensures in
    omega (arith, c.well_formed)

pub loop-closure-preserved : goal.loop-closure-preserved
loop-closure-preserved c =
    let inv = c.loop-closure.invariant in
    let h = c.loop-closure-test.true in
    record {
      stands = put_more c.args.closures.now _ h _ _ _ _ _ inv.stands inv.place c.put_closure.ensures;
      place = place_more c.args.closures.now _ h _ _ _ inv.place c.count.ensures;
    }

pub returns : goal.returns
returns c = put_all c.args.closures.now _ _ _ _ (omega arith) c.loop-closure.invariant.stands
