-- The invariant: the digits of the rest, put before those that stand, give the whole.
use mathlib.Core.Path.{◌≡◌}
use Prim.Native.Nat.{◌+◌, ◌≤◌}
use lib.ListN.{length}
use lib.Seq.{sets}
use Rattle.text.specs.Hex.{hex_digits, hex_text}
use Rattle.text.proofs.writer.Writer.hex.Given as goal

abbrev pub invariant-loop-i : goal.invariant-loop-i
invariant-loop-i l =
    (l.self.at + 16 ≤ length l.self.out.now) × (length l.self.out.now ≡ length l.initial.self.out.now)
    × (sets l.self.out.now l.self.at (hex_digits l.i l.rest) ≡ sets l.initial.self.out.now l.self.at (hex_text l.bits)) × (l.self.at ≡ l.initial.self.at) × (l.self.out.ghost_name ≡ l.initial.self.out.ghost_name)
