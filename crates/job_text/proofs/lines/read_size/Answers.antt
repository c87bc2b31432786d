-- `job_text::lines::read_size` meets its contract.
use mathlib.Core.Path.{sym}
use native.Mathlib.Omega.{arith}
use Rattle.job_text.proofs.Wholes.{end_in, size-read, size_zero, size_unread}
use Rattle.job_text.proofs.lines.read_size.Goals as goal

pub natural-requires : goal.natural-requires
natural-requires c =
    let w = end_in c.args.text.now c.args.at c.field_end-next.result c.field_end-next.ensures c.requires in
    (w.0, w.1, omega arith)

pub returns-in_err-n : goal.returns-in_err-n
returns-in_err-n c =
    rw c.from_residual.ensures (size_unread c.args.text.now c.args.at c.field_end-next.result c.field_end-next.ensures c.requires (sym c.in_err-n.ensures))

pub returns-then-n-eq0 : goal.returns-then-n-eq0
returns-then-n-eq0 c =
    size_zero c.args.text.now c.args.at c.field_end-next.result c.field_end-next.ensures c.requires (sym c.in_ok-n.ensures) c.if-n-eq0.true

pub returns : goal.returns
returns c =
    rw c.from-value.ensures (size-read c.args.text.now c.args.at c.field_end-next.result c.field_end-next.ensures c.requires (sym c.in_ok-n.ensures) c.if-n-eq0.false)
