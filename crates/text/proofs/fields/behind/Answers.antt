-- `text::fields::behind` meets its contract.
use Rattle.text.proofs.FieldLaws.{behind_at}
use Rattle.text.proofs.fields.behind.Goals as goal

pub returns-then-starts_with : goal.returns-then-starts_with
returns-then-starts_with c =
    rw (behind_at c.args.word.now c.args.text.now c.args.at c.if-starts_with.ensures.value)

pub returns-else-starts_with : goal.returns-else-starts_with
returns-else-starts_with c =
    rw (behind_at c.args.word.now c.args.text.now c.args.at c.if-starts_with.ensures.value)
