-- `tile_list::recheck` meets its contract.
use borrow.Author.Rules.{rules}
use Rattle.tile_list.proofs.Answers.{short_left, zeros-behind, within}
use Rattle.tile_list.proofs.recheck.Goals as goal

pub returns-then-out-lt286720 : goal.returns-then-out-lt286720
returns-then-out-lt286720 c =
    short_left c.args.input.now c.args.out.now c.if-out-lt286720.true

pub put_zeros-requires : goal.put_zeros-requires
put_zeros-requires c =
    within c.put_rechecked-end.ensures

pub returns : goal.returns
returns c =
    zeros-behind c.args.input.now c.args.out.now c.put_rechecked-end.new.out c.put_zeros.new.out c.put_rechecked-end.result c.if-out-lt286720.false c.put_rechecked-end.ensures (search rules) c.put_zeros.ensures
