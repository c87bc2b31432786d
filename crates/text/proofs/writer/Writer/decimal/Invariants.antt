-- The invariant: the digits of the rest, put before those that stand, give the whole.
use mathlib.Core.Path.{◌≡◌}
use Prim.Native.Nat.{◌+◌, ◌≤◌}
use lib.ListN.{length}
use lib.Seq.{sets}
use Rattle.text.specs.Decimal.{decimal_text}
use Rattle.text.proofs.writer.Writer.decimal.Given as goal

abbrev pub invariant-loop-i : goal.invariant-loop-i
invariant-loop-i l =
    (l.i ≡ l.initial.self.at + length (decimal_text l.rest)) × (l.i ≤ length l.self.out.now) × (length l.self.out.now ≡ length l.initial.self.out.now)
    × (sets l.self.out.now l.initial.self.at (decimal_text l.rest) ≡ sets l.initial.self.out.now l.initial.self.at (decimal_text l.n)) × (l.self.at ≡ l.initial.self.at) × (l.self.out.ghost_name ≡ l.initial.self.out.ghost_name)
