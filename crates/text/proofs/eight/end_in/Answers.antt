-- `text::eight::end_in` meets its contract.
use mathlib.Core.Path.{sym, ◌∙◌, ap}
use mathlib.Core.Bool.{not}
use Prim.Native.Nat.{ℕ, ◌/◌}
use borrow.Author.Tests.{eq-eqb, ne_eqb}
use lib.Count.{count_trailing_zeros}
use lib.ListN.{length}
use Rattle.std.specs.Int.{w64, to_le_bytes}
use Rattle.std.specs.List.{list_any}
use Rattle.std.proofs.lemmas.Nat.{le_bytes_8}
use Rattle.text.specs.Fields.{ends_field, field}
use Rattle.text.proofs.Bytes.{first_flag}
use Rattle.text.proofs.FieldLaws.{place_is, no_place_is}
use Rattle.text.proofs.eight.end_in.Goals as goal

pub returns-then-flags-eq0 : goal.returns-then-flags-eq0
returns-then-flags-eq0 c =
    let bytes = c.args.bytes.now in
    let back = le_bytes_8 bytes c.from_le_bytes.result c.told-bytes c.fits-bytes c.from_le_bytes.ensures in
    no_place_is bytes (ap (list_any ends_field) (sym back) ∙ sym c.end_flags-flags.ensures.test ∙ ap not (eq-eqb c.end_flags-flags.result 0 c.if-flags-eq0.true))

pub returns : goal.returns
returns c =
    let bytes = c.args.bytes.now in
    let back = le_bytes_8 bytes c.from_le_bytes.result c.told-bytes c.fits-bytes c.from_le_bytes.ensures in
    place_is bytes (ap (list_any ends_field) (sym back) ∙ sym c.end_flags-flags.ensures.test ∙ ap not (ne_eqb c.end_flags-flags.result 0 c.if-flags-eq0.false))
    (ap (λ (n : ℕ). count_trailing_zeros 64 n / 8) c.end_flags-flags.ensures.flags ∙ first_flag (to_le_bytes w64 c.from_le_bytes.result) ∙ ap (λ t. length (field t)) back)
