use mathlib.Core.Path.{◌≡◌, ◌∙◌, ap}
use mathlib.Core.List.{[]}
use Prim.Native.Nat.{◌*◌, ◌/◌, ◌<◌}
use native.Mathlib.Omega.{arith}
use lib.ListN.{length, get_or, drop}
use Rattle.std.specs.List.{position}
use Rattle.text.specs.Fields.{ends_field, field}
use Rattle.text.proofs.FieldLaws.{field_short}
use Rattle.text.proofs.Searching.{ends_in_pair, goes_behind_pair}
use Rattle.text.proofs.fields.before_end_far.Goals as goal

pub returns-in-Some : goal.returns-in-Some
returns-in-Some c =
    let bytes = c.args.bytes.now in
    let i = c.loop-i.i in
    let h : i < length bytes / 16 = omega (arith, c.loop-i-test.true, c.as_chunks.ensures.front_len) in
    let s = ends_in_pair bytes i [] h (c.in-Some.ensures ∙ ap (λ ps. position ends_field (get_or ps i [])) c.as_chunks.ensures.front) in
    omega (arith, s, c.loop-i.invariant)

pub loop-i-preserved : goal.loop-i-preserved
loop-i-preserved c =
    let bytes = c.args.bytes.now in
    let i = c.loop-i.i in
    let h : i < length bytes / 16 = omega (arith, c.loop-i-test.true, c.as_chunks.ensures.front_len) in
    let s = goes_behind_pair bytes i [] h (c.in_default.ensures ∙ ap (λ ps. position ends_field (get_or ps i [])) c.as_chunks.ensures.front) in
    c.loop-i.invariant ∙ omega (arith, s)

pub returns : goal.returns
returns c =
    let bytes = c.args.bytes.now in
    let e : c.loop-i.i ≡ length bytes / 16 = omega (arith, c.loop-i-test.false, c.loop-i.auto.i-end, c.as_chunks.ensures.front_len) in
    let l = ap (λ k. length (field (drop (k * 16) bytes))) e in
    let s = c.before_end_near.ensures ∙ ap (λ t. length (field t)) c.as_chunks.ensures.back in
    omega (arith, c.loop-i.invariant, e, l, s, c.as_chunks.ensures.front_len)

pub overflow_add-result-2 : goal.overflow_add-result-2
overflow_add-result-2 c =
    let s = field_short c.args.bytes.now in
    omega (arith, returns c, s)

pub overflow_add-result : goal.overflow_add-result
overflow_add-result c =
    let s = field_short c.args.bytes.now in
    omega (arith, returns-in-Some c, s)
