-- `shapes::fronts::put_loops` meets its contract. The invariant: the loops from `n-index` on are left, and their points begin at `first`.
use Rattle.std.proofs.Common.{◌*◌, ◌+◌, ◌-◌, ◌≤◌, length, drop, map}
use Rattle.std.specs.Iterator.Adapters.{map_source, map_callee}
use Rattle.std.specs.List.{range_with_len}
use Rattle.geometry.specs.Domain.{sum_of}
use Rattle.geometry.specs.Rings.{point_at}
use Rattle.text.proofs.Midst.{Midst}
use Rattle.shapes.specs.Shapes.{loops_text}
use Rattle.text.specs.Writing.{Same}
use Rattle.shapes.proofs.fronts.put_loops.Given as goal

abbrev pub ghost-put_ring : goal.ghost-put_ring
ghost-put_ring a = map (point_at (map_callee a.ring).0.now) (range_with_len (map_source a.ring).start ((map_source a.ring).end - (map_source a.ring).start))

abbrev pub invariant-loop-n : goal.invariant-loop-n
invariant-loop-n l = ((l.first + sum_of (drop l.n-index l.outline.loop_lengths.now)) * 2 ≤ length l.outline.coords.now) × Midst l.initial.w.out.now l.initial.w.at (loops_text l.outline.coords.now 0 l.outline.loop_lengths.now) l.w.out.now l.w.at (loops_text l.outline.coords.now l.first (drop l.n-index l.outline.loop_lengths.now)) × Same l.initial.w l.w
