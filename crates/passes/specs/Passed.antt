-- What passes on lent buffers answer and leave. Definitions only.
use Rattle.std.specs.Prelude.{◌+◌, Bool, false, eqb}
use Rattle.state.specs.declared.Counts.{Counts}
use Rattle.state.specs.State.{State, Held, written}
use Rattle.state.specs.Outcome.{Outcome, refused, gives}
use Rattle.state.specs.Call.{held}

-- done: all that is held then; refused: the number alone, since the buffers hold a part of a pass, and the job clears them
abbrev pub passed : Outcome Counts → Held → Outcome Held
passed (gives c) b = gives (held b.points b.quads b.front_nodes b.front_lengths c)
passed (refused n) b = refused n

-- a state, written
abbrev pub written_of : Outcome State → Outcome Held
written_of (gives s) = gives (written s)
written_of (refused n) = refused n

-- a row met number 21
abbrev pub full : Outcome Counts → Bool
full (gives c) = false
full (refused n) = eqb n 21

-- the counts when a pass begins
abbrev pub begun_counts : Counts → Counts
begun_counts c = record {
  points = c.points;
  quads = c.quads;
  fronts = c.fronts;
  row_quads = c.row_quads;
  core_quads = c.core_quads;
  row_rounds = c.row_rounds;
  passes_begun = c.passes_begun + 1;
  laid = c.laid;
}
