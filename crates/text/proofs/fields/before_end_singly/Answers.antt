-- `text::fields::before_end_singly` meets its contract.
use mathlib.Core.Path.{◌∙◌}
use borrow.Author.Rules.{rules}
use Rattle.std.proofs.lemmas.Iterator.{YieldsList-from_slice}
use Rattle.std.proofs.lemmas.Iterator.Search.{position_from_yields_List}
use Rattle.text.specs.Fields.{ends_field}
use Rattle.text.proofs.FieldLaws.{before_first}
use Rattle.text.proofs.fields.before_end_singly.Goals as goal

pub returns : goal.returns
returns c =
    let bytes = c.args.bytes.now in
    c.unwrap_or.ensures ∙ before_first bytes (position_from_yields_List ends_field _ _ _ c.position.ensures.ran (YieldsList-from_slice bytes (search rules)) (λ x b q k. search rules))
