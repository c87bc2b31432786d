-- `tile_text::counts::read_done` meets its contract.
use native.Mathlib.Omega.{arith}
use Rattle.tile_text.proofs.Counting.{done_none, done_within, done_some}
use Rattle.tile_text.proofs.counts.read_done.Goals as goal

pub returns-in_default : goal.returns-in_default
returns-in_default c = done_none _ _ c.requires c.in_default.ensures _

pub read_numbers-line-requires : goal.read_numbers-line-requires
read_numbers-line-requires c = ((done_within _ _ c.requires c.in-Some.ensures).1, omega arith)

pub returns : goal.returns
returns c =
    let first = (done_within _ _ c.requires c.in-Some.ensures).0 in
    done_some _ c.args.at _ c.read_numbers-line.result (rw first at c.read_numbers-line.ensures) c.behind_end.result c.behind_end.ensures _ c.counted-2.ensures
