-- `tile_text::numbers::number_in` meets its contract.
use Rattle.std.proofs.Common.{rules}
use Rattle.tile_text.proofs.Numbering.{number_is}
use Rattle.tile_text.proofs.numbers.number_in.Goals as goal

pub returns : goal.returns
returns c = λ n h w. let e = number_is _ c.natural.result c.natural.ensures n h w in let a = rw e at c.and_then.ensures in search rules
