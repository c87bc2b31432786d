-- `job_text::lines::read_whole` meets its contract, behind a minus sign and without one.
use mathlib.Core.Path.{◌≡◌, sym, ◌∙◌, ap}
use mathlib.Core.Option.{some}
use Prim.Native.Nat.{◌+◌}
use native.Mathlib.Omega.{arith}
use lib.Seq.{slice}
use Rattle.text.specs.Decimal.{natural_of, whole_of, negated, positive}
use Rattle.job_text.specs.Drawing.{coordinate_most}
use Rattle.job_text.proofs.Wholes.{end_in, whole-read, whole_unread, minus_read, minus_whole, plain_whole, no_whole}
use Rattle.job_text.proofs.lines.read_whole.Goals as goal
use Rattle.job_text.proofs.lines.read_whole.Goals.{Then-text-at-eq45, then-at-next+else-text-at-eq45, else-at-next}

-- a minus sign stands first
minus : (c : Then-text-at-eq45) → whole_of coordinate_most (slice c.args.at c.field_end-next.result c.args.text.now) ≡ negated (natural_of coordinate_most (slice (c.args.at + 1) c.field_end-next.result c.args.text.now))
minus c =
    let w = end_in c.args.text.now c.args.at c.field_end-next.result c.field_end-next.ensures c.requires in
    minus_whole c.args.text.now c.args.at c.field_end-next.result coordinate_most w.1 c.if-at-next.true c.if-text-at-eq45.true

pub bounds-text-at : goal.bounds-text-at
bounds-text-at c =
    omega (arith, (end_in c.args.text.now c.args.at c.field_end-next.result c.field_end-next.ensures c.requires).1)

pub natural-requires : goal.natural-requires
natural-requires c =
    let w = end_in c.args.text.now c.args.at c.field_end-next.result c.field_end-next.ensures c.requires in
    (omega arith, w.1, omega arith)

pub returns-in_err-n : goal.returns-in_err-n
returns-in_err-n c =
    let m = minus (goal.at.returns-in_err-n c).Then-text-at-eq45 in
    rw c.from_residual.ensures (whole_unread c.args.text.now c.args.at c.field_end-next.result c.field_end-next.ensures c.requires (m ∙ ap negated (sym c.in_err-n.ensures)))

pub returns-then-n-eq0 : goal.returns-then-n-eq0
returns-then-n-eq0 c =
    let m = minus (goal.at.returns-then-n-eq0 c).Then-text-at-eq45 in
    whole_unread c.args.text.now c.args.at c.field_end-next.result c.field_end-next.ensures c.requires (m ∙ ap negated (sym c.in_ok-n.ensures) ∙ ap (λ n. negated (some n)) c.if-n-eq0.true)

pub returns-then-text-at-eq45 : goal.returns-then-text-at-eq45
returns-then-text-at-eq45 c =
    let m = minus (goal.at.returns-then-text-at-eq45 c).Then-text-at-eq45 in
    rw c.from-value.ensures (minus_read c.args.text.now c.args.at c.field_end-next.result c.field_end-next.ensures c.requires c.in_ok-n.n (m ∙ ap negated (sym c.in_ok-n.ensures)) c.if-n-eq0.false)

pub natural-requires-2 : goal.natural-requires-2
natural-requires-2 c =
    let w = end_in c.args.text.now c.args.at c.field_end-next.result c.field_end-next.ensures c.requires in
    (w.0, w.1, omega arith)

-- no minus sign stands first
pub returns-in_err-n-2 : goal.returns-in_err-n-2
returns-in_err-n-2 c =
    let within = end_in c.args.text.now c.args.at c.field_end-next.result c.field_end-next.ensures c.requires in
    let plain : whole_of coordinate_most (slice c.args.at c.field_end-next.result c.args.text.now) ≡ positive (natural_of coordinate_most (slice c.args.at c.field_end-next.result c.args.text.now)) =
    elim c.if-at-next.branch [
      | then-at-next+else-text-at-eq45 w ↦ plain_whole c.args.text.now c.args.at c.field_end-next.result coordinate_most within.1 w.if-at-next.true w.if-text-at-eq45.false
      | else-at-next w ↦ no_whole c.args.text.now c.args.at c.field_end-next.result coordinate_most within.1 (omega arith)
    ] in
    rw c.from_residual-in_err-n-2.ensures (whole_unread c.args.text.now c.args.at c.field_end-next.result c.field_end-next.ensures c.requires (plain ∙ ap positive (sym c.in_err-n-2.ensures)))

pub returns : goal.returns
returns c =
    let within = end_in c.args.text.now c.args.at c.field_end-next.result c.field_end-next.ensures c.requires in
    let plain : whole_of coordinate_most (slice c.args.at c.field_end-next.result c.args.text.now) ≡ positive (natural_of coordinate_most (slice c.args.at c.field_end-next.result c.args.text.now)) =
    elim c.if-at-next.branch [
      | then-at-next+else-text-at-eq45 w ↦ plain_whole c.args.text.now c.args.at c.field_end-next.result coordinate_most within.1 w.if-at-next.true w.if-text-at-eq45.false
      | else-at-next w ↦ no_whole c.args.text.now c.args.at c.field_end-next.result coordinate_most within.1 (omega arith)
    ] in
    rw c.from-value-2.ensures (whole-read c.args.text.now c.args.at c.field_end-next.result c.field_end-next.ensures c.requires (plain ∙ ap positive (sym c.in_ok-n-2.ensures)))
