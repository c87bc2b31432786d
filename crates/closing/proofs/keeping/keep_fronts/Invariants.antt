-- Of the first `li` fronts, those that are kept stand at the front of the buffers.
use lib.ListN.{length}
use Rattle.closing.specs.Keeping.{marks_of}
use Rattle.closing.proofs.Packing.{Moved}
use Rattle.closing.proofs.keeping.keep_fronts.Given as goal

abbrev pub invariant-loop-li : goal.invariant-loop-li
invariant-loop-li l = Moved l.initial.front_nodes l.initial.front_lengths (marks_of l.closures) (length l.closures) l.front_nodes l.front_lengths l.place l.start l.li
