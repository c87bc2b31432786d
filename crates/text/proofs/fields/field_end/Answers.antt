-- `text::fields::field_end` meets its contract.
use mathlib.Core.Path.{◌∙◌, ap}
use native.Mathlib.Omega.{arith}
use Prim.Native.Nat.{◌+◌}
use lib.ListN.{length}
use Rattle.text.specs.Fields.{field, field_end}
use Rattle.text.proofs.FieldLaws.{tail_is, end_within}
use Rattle.text.proofs.fields.field_end.Goals as goal

pub overflow_add-result : goal.overflow_add-result
unfolding field_end
overflow_add-result c =
    let e = ap (λ t. length (field t)) (tail_is c.args.text.now c.args.at) in
    let h = (end_within c.args.text.now c.args.at c.requires).1 in
    omega (arith, e, h, c.before_end.ensures)

pub returns : goal.returns
unfolding field_end
returns c = ap (λ n. c.args.at + n) (c.before_end.ensures ∙ ap (λ t. length (field t)) (tail_is c.args.text.now c.args.at))
