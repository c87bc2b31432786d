use Rattle.std.proofs.Common.{◌≤◌, length, subst, sym, arith}
use Rattle.std.specs.Io.KnownBytes.{Consumes}
use Rattle.standard.proofs.Pieces.{behind}
use Rattle.standard.proofs.read_behind.Goals as goal

pub returns-in-Ok-clause-bytes : goal.returns-in-Ok-clause-bytes
returns-in-Ok-clause-bytes g c =
    let part = c.read.new.buf in
    let within : c.in-Ok.n ≤ length part = omega (arith, c.in-Ok.ensures.bound, c.read.auto.buf) in
    subst (Consumes _ _) (sym (behind _ _ _ c.args.buf.now part c.requires within)) c.in-Ok.ensures.bytes.0
