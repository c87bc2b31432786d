-- `state::held::Buffers::is_wrong` meets its contract.
use mathlib.Core.Path.{◌≡◌, sym, ◌∙◌}
use mathlib.Core.Bool.{false}
use Rattle.state.specs.State.{Held}
use Rattle.state.specs.Call.{held}
use Rattle.state.specs.Given.{wrong_counts}
use Rattle.state.proofs.Literals.{billion_is}
use Rattle.state.proofs.Sounding.{counted, by_counts, by_nodes, by_coordinate, by_sums}
use Rattle.state.proofs.held.Buffers.is_wrong.Goals as goal
use Rattle.state.proofs.held.Buffers.is_wrong.Goals.{then-wrong_nodes, else-wrong_nodes}

pub returns-then-wrong_counts : goal.returns-then-wrong_counts
returns-then-wrong_counts c =
    let a = c.args.self.now in
    by_counts (held a.points.now a.quads.now a.front_nodes.now a.front_lengths.now c.args.counts) _ (c.wrong_counts.ensures.exact a.points.now a.quads.now a.front_nodes.now) c.if-wrong_counts.true

pub returns-then-wrong_coordinate : goal.returns-then-wrong_coordinate
returns-then-wrong_coordinate c =
    let a = c.args.self.now in
    let b : Held = held a.points.now a.quads.now a.front_nodes.now a.front_lengths.now c.args.counts in
    let w : wrong_counts b ≡ false = sym (c.wrong_counts.ensures.exact a.points.now a.quads.now a.front_nodes.now) ∙ c.if-wrong_counts.false in
    let right = counted b c.requires w in
    let n = rw c.sum_of-total.ensures at c.wrong_nodes.ensures in
    elim c.if-wrong_nodes.branch [
      | then-wrong_nodes v ↦ v.value-is ∙ v.if-wrong_nodes.true ∙ by_nodes b right _ n v.if-wrong_nodes.true w
      | else-wrong_nodes v ↦
          c.if-wrong_coordinate.true ∙ by_coordinate b right _ n v.if-wrong_nodes.false w _ (rw billion_is at v.wrong_coordinate.ensures) (sym v.value-is ∙ c.if-wrong_coordinate.true)
    ]

pub returns-else-wrong_coordinate : goal.returns-else-wrong_coordinate
returns-else-wrong_coordinate c =
    let a = c.args.self.now in
    let b : Held = held a.points.now a.quads.now a.front_nodes.now a.front_lengths.now c.args.counts in
    let w : wrong_counts b ≡ false = sym (c.wrong_counts.ensures.exact a.points.now a.quads.now a.front_nodes.now) ∙ c.if-wrong_counts.false in
    let n = rw c.sum_of-total.ensures at c.wrong_nodes.ensures in
    elim c.if-wrong_nodes.branch [
      | then-wrong_nodes v ↦ cc
      | else-wrong_nodes v ↦
          by_sums b (counted b c.requires w) _ n v.if-wrong_nodes.false w _ _ (rw billion_is at v.wrong_coordinate.ensures) (sym v.value-is ∙ c.if-wrong_coordinate.false) c.wrong_sums.ensures
    ]
