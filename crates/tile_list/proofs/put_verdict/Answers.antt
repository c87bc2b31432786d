-- `tile_list::put_verdict` meets its contract.
use mathlib.Core.Path.{sym, ◌∙◌, ap}
use native.Mathlib.Omega.{arith}
use lib.ListN.{length}
use Rattle.answer_text.proofs.Pieces.{refused_fits}
use Rattle.tile_list.specs.Steps.{list_of, number_of, verdict_number}
use Rattle.tile_list.proofs.Verdicts.{allowed-read, fours_read}
use Rattle.tile_list.proofs.Answers.{unreadable, numbered, accepted, some_number, stands}
use Rattle.tile_list.proofs.put_verdict.Goals as goal

pub returns-then-not-is_readable : goal.returns-then-not-is_readable
returns-then-not-is_readable c =
    let none_read = c.is_readable.ensures.no c.if-not-is_readable.true in
    let room = c.requires.room in
    let long = c.is_readable.auto.out in
    let fits = refused_fits 30 in
    stands (unreadable c.args.input.now none_read) c.put_error.ensures.put (omega arith)

pub check-requires : goal.check-requires
check-requires c =
    let l = c.args.list.now in
    let yes = (c.is_readable.ensures.yes c.if-not-is_readable.false).0 in record {
      allowed = allowed-read c.args.input.now l c.requires.read (list_of l) yes;
      fours = fours_read c.args.input.now l c.requires.read yes;
    }

pub returns-in-Ok : goal.returns-in-Ok
returns-in-Ok c =
    let yes = c.is_readable.ensures.yes c.if-not-is_readable.false in
    let same = accepted c.args.input.now (list_of c.args.list.now) yes.0 _ c.check.ensures (ap verdict_number c.in-Ok.is) in
    record { bytes = yes.1 ∙ same; place = ap length same }

pub returns-in-Err : goal.returns-in-Err
returns-in-Err c =
    let yes = (c.is_readable.ensures.yes c.if-not-is_readable.false).0 in
    let room = c.requires.room in
    let long = c.is_readable.auto.out in
    let k = number_of c.in-Err.error in
    let n = sym (ap verdict_number c.in-Err.is) ∙ c.check.ensures in
    let fits = refused_fits k in
    stands (numbered c.args.input.now (list_of c.args.list.now) yes k n (λ z. some_number c.in-Err.error z)) c.put_error-in-Err.ensures.put (omega arith)
