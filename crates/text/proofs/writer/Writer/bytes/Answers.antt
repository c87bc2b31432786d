use mathlib.Core.Path.{refl}
use Rattle.text.proofs.Midst.{part_put}
use Rattle.text.proofs.writer.Writer.bytes.Goals as goal

pub returns-clause-put : goal.returns-clause-put
returns-clause-put c = record { bytes = rw c.copy_from_slice.ensures.after (part_put c.args.self.now.out.now c.args.word.now c.args.self.now.at _ refl c.requires); place = refl }
