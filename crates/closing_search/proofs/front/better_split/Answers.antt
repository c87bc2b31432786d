use mathlib.Core.Path.{◌≡◌, sym, ◌∙◌}
use mathlib.Core.Bool.{cond}
use Prim.Native.Nat.{◌+◌}
use Rattle.std.specs.Prelude.{Some}
use Rattle.rules.specs.Closing.{best_split}
use Rattle.closing_search.specs.Closures.{split_of}
use Rattle.closing_search.proofs.Splitting.{first_fails, second_fails, decided}
use Rattle.closing_search.proofs.front.better_split.Goals as goal
use Rattle.closing_search.proofs.front.better_split.Goals.{After-beats}

decided_at : (c : After-beats) → best_split c.args.limit c.args.front.now.pts.now c.args.front.now.nodes.now (c.args.i + 1)
    ≡ cond c.beats.result (split_of (Some (record { first = c.turned-first.result; second = c.turned-second.result; score = c.lesser-score.result }))) (split_of c.args.best)
decided_at c =
    decided c.args.limit c.args.front.now.pts.now c.args.front.now.nodes.now c.args.i c.requires.nodes_len.1 c.args.best c.requires.best_value _ _ c.turned-first.ensures.0 c.turned-second.ensures.0 _ _ _ _ _ _ c.passes.ensures c.if-not-passes.false c.passes-2.ensures c.if-not-passes-2.false c.least.ensures c.least-2.ensures c.lesser-score.ensures c.beats.ensures

pub returns-then-not-passes : goal.returns-then-not-passes
returns-then-not-passes c =
    first_fails c.args.limit c.args.front.now.pts.now c.args.front.now.nodes.now c.args.i c.requires.nodes_len.1 c.args.best c.requires.best_value _ _ c.turned-first.ensures.0 c.turned-second.ensures.0 _ c.passes.ensures c.if-not-passes.true

pub returns-then-not-passes-2 : goal.returns-then-not-passes-2
returns-then-not-passes-2 c =
    second_fails c.args.limit c.args.front.now.pts.now c.args.front.now.nodes.now c.args.i c.requires.nodes_len.1 c.args.best c.requires.best_value _ _ c.turned-first.ensures.0 c.turned-second.ensures.0 _ _ c.passes.ensures c.if-not-passes.false c.passes-2.ensures c.if-not-passes-2.true

pub returns-then-beats : goal.returns-then-beats
returns-then-beats c = sym (decided_at (goal.at.returns-then-beats c).After-beats ∙ rw c.if-beats.true)

pub returns : goal.returns
returns c = sym (decided_at (goal.at.returns c).After-beats ∙ rw c.if-beats.false)
