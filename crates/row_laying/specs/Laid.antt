-- The counts after a row. Definitions only.
use Rattle.std.specs.Prelude.{ℕ, ◌+◌}
use Rattle.state.specs.declared.Counts.{Counts}

-- n points and quads more, and a round
abbrev pub with_row : Counts → ℕ → Counts
with_row c n = record {
  points = c.points + n;
  quads = c.quads + n;
  fronts = c.fronts;
  row_quads = c.row_quads + n;
  core_quads = c.core_quads;
  row_rounds = c.row_rounds + 1;
  passes_begun = c.passes_begun;
  laid = c.quads + n;
}
