-- `picture::drawing::draw_text` meets its contract.
use borrow.Author.Rules.{rules}
use native.Mathlib.Omega.{arith}
use Rattle.text.proofs.Midst.{long_put}
use Rattle.picture.proofs.Texts.{short_left, drawn-whole}
use Rattle.picture.proofs.drawing.draw_text.Goals as goal

pub returns-then-out-lt1638400 : goal.returns-then-out-lt1638400
returns-then-out-lt1638400 c =
    short_left c.args.input.now c.args.out.now c.if-out-lt1638400.true

pub put_zeros-requires : goal.put_zeros-requires
put_zeros-requires c =
    let long = long_put c.put_drawing.ensures.put in
    let most = c.put_drawing.ensures.upper_bound in
    omega arith

pub returns : goal.returns
returns c =
    let whole = drawn-whole c.args.input.now c.args.out.now c.put_drawing.new.w.out.now c.put_zeros.new.out c.put_drawing.new.w.at c.if-out-lt1638400.false c.put_drawing.ensures.put c.put_drawing.ensures.upper_bound c.put_zeros.ensures in
    search (rules, whole)
