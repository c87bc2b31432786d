use Rattle.std.proofs.Common.{rules}
use Rattle.standard.proofs.Pieces.{more}
use Rattle.standard.proofs.read_pieces.Goals as goal

pub loop-done-preserved : goal.loop-done-preserved
loop-done-preserved g c = record {
  within = search rules;
  bytes = more _ _ _ c.loop-done.buf c.read_behind.new.buf _ _ c.in_ok-more.ensures.reached.0 c.in_ok-more.ensures.front c.loop-done.invariant.bytes c.in_ok-more.ensures.bytes;
}
