use Rattle.std.proofs.Common.{refl, ◌∙◌}
use mathlib.Core.Path.{ap}
use mathlib.Core.List.{[], ◌∷◌, ◌++◌}
use Prim.Native.Nat.{◌+◌}
use lib.ListN.{get_or, drop}
use Rattle.text.specs.Decimal.{decimal_text}
use Rattle.text.proofs.Midst.{more, room, last, same_rest}
use Rattle.answer_text.specs.AnswerText.{tab, lf, numbers_text, count_numbers}
use Rattle.answer_text.proofs.LineLaws.{numbers_behind, numbers_end}
use Rattle.answer_text.proofs.answer.put_counts.Goals as goal

pub put_number-requires : goal.put_number-requires
put_number-requires c =
    let ns = count_numbers c.args.counts in
    let i = c.loop-count.count-index in
    room (tab ∷ decimal_text (get_or ns i 0)) (numbers_text (drop (i + 1) ns) ++ (lf ∷ [])) (same_rest (numbers_behind ns i _ (lf ∷ []) c.loop-count-test.true refl) c.loop-count.invariant.0) c.requires

pub loop-count-preserved : goal.loop-count-preserved
loop-count-preserved c =
    let ns = count_numbers c.args.counts in
    let i = c.loop-count.count-index in
    (more (same_rest (numbers_behind ns i _ (lf ∷ []) c.loop-count-test.true refl) c.loop-count.invariant.0) c.put_number.ensures.put, c.put_number.ensures.same ∙ c.loop-count.invariant.1)

pub returns-clause-put : goal.returns-clause-put
returns-clause-put c =
    let ns = count_numbers c.args.counts in
    last (same_rest (ap (λ t. t ++ (lf ∷ [])) (numbers_end ns c.loop-count.count-index c.loop-count-test.false)) c.loop-count.invariant.0) c.byte.ensures.put
