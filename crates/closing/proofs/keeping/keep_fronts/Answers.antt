use mathlib.Core.Path.{◌≡◌, sym, ◌∙◌}
use mathlib.Core.Bool.{true, false}
use native.Mathlib.Omega.{arith}
use lib.ListN.{get_or}
use Rattle.std.proofs.lemmas.List.{get_or-map}
use Rattle.closing_search.specs.declared.front.Closure.TheVariants.{Kept}
use Rattle.closing.proofs.Packing.{moved_none, moved_more, within, nodes_packed, lengths_packed}
use Rattle.closing.specs.Keeping.{marks_of}
use Rattle.closing.proofs.keeping.keep_fronts.Goals as goal
use Rattle.closing.proofs.keeping.keep_fronts.Goals.{then-is_kept, else-is_kept}

pub loop-li-init : goal.loop-li-init
loop-li-init c = moved_none _ _ _ _

pub move_front-place-requires : goal.move_front-place-requires
move_front-place-requires c =
    let m = c.loop-li.invariant in
    let w = within c.args.front_nodes.now c.args.front_lengths.now (marks_of c.args.closures.now) _ c.requires.0 c.requires.1 _ _ _ _ _ m c.loop-li-test.true in
    (m.low, omega arith, omega arith)

pub overflow_add-start : goal.overflow_add-start
overflow_add-start c =
    let w = within c.args.front_nodes.now c.args.front_lengths.now (marks_of c.args.closures.now) _ c.requires.0 c.requires.1 _ _ _ _ _ c.loop-li.invariant c.loop-li-test.true in
    omega (arith, c.well_formed)

pub loop-li-preserved : goal.loop-li-preserved
loop-li-preserved c =
    let cs = c.args.closures.now in
    let h = c.loop-li-test.true in
    let mark : c.is_kept.result ≡ get_or (marks_of cs) c.loop-li.li false = c.is_kept.ensures ∙ sym (get_or-map _ cs c.loop-li.li Kept false h) in
    rw c.from-start.ensures
    (elim c.if-is_kept.branch [
      | then-is_kept w ↦
          let k = w.move_front-place.ensures in
          moved_more c.args.front_nodes.now c.args.front_lengths.now (marks_of cs) _ c.requires.0 c.requires.1 _ _ _ _ _ c.loop-li.invariant h true _ _ _ (sym w.if-is_kept.true ∙ mark)
          (w.place-is ∙ k.value) (w.front_nodes-is ∙ k.front_nodes_after) (w.front_lengths-is ∙ k.front_lengths_after)
      | else-is_kept w ↦
          moved_more c.args.front_nodes.now c.args.front_lengths.now (marks_of cs) _ c.requires.0 c.requires.1 _ _ _ _ _ c.loop-li.invariant h false _ _ _ (sym w.if-is_kept.false ∙ mark)
          w.place-is w.front_nodes-is w.front_lengths-is
    ])

pub returns-clause-front_nodes_after : goal.returns-clause-front_nodes_after
returns-clause-front_nodes_after c =
    nodes_packed c.args.front_nodes.now c.args.front_lengths.now (marks_of c.args.closures.now) _ c.requires.0 c.requires.1 _ _ _ _ _ c.loop-li.invariant (omega arith) _ c.loop-li.auto.front_nodes c.fill_from.ensures

pub returns-clause-front_lengths_after : goal.returns-clause-front_lengths_after
returns-clause-front_lengths_after c =
    lengths_packed c.args.front_nodes.now c.args.front_lengths.now (marks_of c.args.closures.now) _ c.requires.0 c.requires.1 _ _ _ _ _ c.loop-li.invariant (omega arith) _ c.loop-li.auto.front_lengths c.fill_from-2.ensures
