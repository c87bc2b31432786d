-- `plate_text::pave_text` meets its contract.
use borrow.Author.Rules.{rules}
use native.Mathlib.Omega.{arith}
use Rattle.text.proofs.Midst.{long_put}
use Rattle.plate_text.proofs.Texts.{short_left, zeros-behind}
use Rattle.plate_text.proofs.pave_text.Goals as goal

pub returns-then-out-lt270336 : goal.returns-then-out-lt270336
returns-then-out-lt270336 c =
    short_left c.args.input.now c.args.out.now c.if-out-lt270336.true

pub put_zeros-requires : goal.put_zeros-requires
put_zeros-requires c =
    let long = long_put c.put_paved.ensures.put in
    let most = c.put_paved.ensures.upper_bound in
    omega arith

pub returns : goal.returns
returns c =
    let long = long_put c.put_paved.ensures.put in
    let most = c.put_paved.ensures.upper_bound in
    let whole = zeros-behind c.args.input.now c.args.out.now c.put_paved.new.w.out.now c.put_zeros.new.out c.put_paved.new.w.at c.if-out-lt270336.false
    c.put_paved.ensures.put long (omega arith) c.put_zeros.ensures in
    search (rules, whole)
