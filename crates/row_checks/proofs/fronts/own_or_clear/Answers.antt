-- `row_checks::fronts::own_or_clear` meets its contract.
use mathlib.Core.Path.{sym, ◌∙◌}
use lib.Ieee.{binary64}
use lib.Ieee.Fits.{mul-fits}
use Rattle.row_checks.proofs.FarClear.{far_clear}
use Rattle.row_checks.proofs.fronts.own_or_clear.Goals as goal
use Rattle.row_checks.proofs.fronts.own_or_clear.Goals.{then-own, else-own+then-is_bound, else-own+else-is_bound}

pub returns-then-all_far : goal.returns-then-all_far
returns-then-all_far c =
    let a = c.args in
    elim c.if-own.branch [
      | then-own w ↦ rw (w.value-is, w.if-own.true)
      | else-own+then-is_bound w ↦ rw (c.if-all_far.true, w.if-own.false)
          (far_clear _ _ (mul-fits binary64 _ _) (sym w.is_bound.ensures ∙ w.if-is_bound.true) a.front.now.pts.now a.front.now.nodes.now a.row.now.pts.now a.row.now.n (sym w.all_far.ensures ∙ sym w.value-is ∙ c.if-all_far.true))
      | else-own+else-is_bound w ↦ absurd cc
    ]
