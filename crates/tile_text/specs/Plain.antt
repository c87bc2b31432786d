-- Lists whose numbers fit where they are stored. Definitions only.
use Rattle.std.specs.Prelude.{ℕ, ◌+◌, ◌<◌, ◌≡◌, true, List, map, length, get_or, T, Float}
use Rattle.std.specs.Float.{binary64}
use Rattle.std.specs.Float.Ieee.{fits}
use Rattle.float.specs.Helpers.{decimal, is_finite}
use Rattle.state.specs.State.{joined, quad_nodes, nodes, counts_of}
use Rattle.answer_text.specs.AnswerText.{count_numbers}
use Rattle.tile_text.specs.TileList.{TileList}

-- every number of a list is a u16
abbrev pub U16s : List ℕ → Type 0
U16s ns = (i : ℕ) → i < length ns → get_or ns i 0 < 65536

-- every number of a list is a finite f64
abbrev pub FiniteF64s : List Float → Type 0
FiniteF64s xs = (i : ℕ) → i < length xs → T (fits binary64 (get_or xs i (decimal 0 0))) × (is_finite (get_or xs i (decimal 0 0)) ≡ true)

-- node numbers, lengths and counts are u16, coordinates are finite f64s, two for each point
pub record Plain (l : TileList) : Type 0 where
  pub loop_nodes : U16s (joined l.loops)
  pub loop_lengths : U16s (map length l.loops)
  pub quad_nodes : U16s (joined (map quad_nodes l.state.quads))
  pub front_nodes : U16s (joined l.state.fronts)
  pub front_lengths : U16s (map length l.state.fronts)
  pub counts : U16s (count_numbers (counts_of l.state))
  pub coordinates : FiniteF64s l.state.points
  pub pairs : length l.state.points ≡ nodes l.state + nodes l.state
