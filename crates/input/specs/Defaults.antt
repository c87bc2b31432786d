-- The default options of document 01: 2.4, 0.08, 1.2, 32, seam false, and the corner limit that was its constant. The function `defaults` makes them of the constants of `Options`. Definitions only.
use Rattle.std.specs.Prelude.{false}
use Rattle.float.specs.Helpers.{decimal}
use Rattle.input.specs.declared.Options.{Options}
use Rattle.input.specs.Limit.{default_limit}

abbrev pub defaults : Options
defaults = record {
  corner_margin = decimal 24 1;
  min_edge_fraction = decimal 8 2;
  front_gap = decimal 12 1;
  max_row_rounds = 32;
  seam = false;
  corner_limit = default_limit;
}
