-- `tile_text::points::read_points` meets its contract. The invariant: where the text from `at` on is the writing of points, what the iterator has left is the writing of the last of them.
use mathlib.Core.Path.{◌≡◌}
use Prim.Native.Nat.{◌+◌, ◌*◌}
use lib.ListN.{length, drop}
use Rattle.std.specs.Slice.Iter.{chunks_exact_rest, chunks_exact_size}
use Rattle.tile_text.proofs.Pointing.{Left}
use Rattle.tile_text.proofs.points.read_points.Given as goal

abbrev pub invariant-loop-line : goal.invariant-loop-line
invariant-loop-line l =
    (chunks_exact_size l.line-iterator ≡ 36) × (length l.points ≡ length l.initial.points) × (drop (l.at + l.count * 36) l.text ≡ chunks_exact_rest l.line-iterator)
    × Left l.text l.at l.initial.points l.points (l.at + l.count * 36) l.count
