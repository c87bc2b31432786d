-- `text::eight::end_in_two` meets its contract.
use Rattle.text.proofs.Searching.{in_second}
use Rattle.text.proofs.eight.end_in_two.Goals as goal

pub returns : goal.returns
returns c = in_second c.args.bytes.now c.told-bytes c.as_chunks.result.0.now c.as_chunks.ensures.front c.in_default.ensures c.in_ok-n.ensures
