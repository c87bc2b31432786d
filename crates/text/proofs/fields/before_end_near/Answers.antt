-- `text::fields::before_end_near` meets its contract.
use native.Mathlib.Omega.{arith}
use Rattle.text.proofs.FieldLaws.{field_short}
use Rattle.text.proofs.Searching.{ends_in_first, ends_behind}
use Rattle.text.proofs.fields.before_end_near.Goals as goal

pub returns-in-Some-end_in : goal.returns-in-Some-end_in
returns-in-Some-end_in c = let parts = c.in-Some.ensures.cases in ends_in_first 8 c.args.bytes.now _ _ parts.0 parts.1 c.in-Some-end_in.ensures

pub returns-in-None : goal.returns-in-None
returns-in-None c = let parts = c.in-Some.ensures.cases in ends_behind 8 c.args.bytes.now _ _ parts.0 parts.1 (omega (arith, parts.2)) c.in-None.ensures c.before_end_singly-in-None.ensures

pub overflow_add-result : goal.overflow_add-result
overflow_add-result c = let s = field_short c.args.bytes.now in omega (arith, returns-in-None c, s)
