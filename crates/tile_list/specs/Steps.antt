-- What the code's steps ask and answer, over the buffers that a list was read into. Definitions only.
use Rattle.std.specs.Prelude.{ℕ, ◌≡◌, Bool, true, false, not, ◌&&◌, List, eqb, leb, length, take, replicate, Result, Ok, Err}
use Rattle.std.proofs.Math.Option.{none, some}
use Rattle.state.specs.declared.Counts.{Counts}
use Rattle.state.specs.State.{Held, quads_of, reading}
use Rattle.state.specs.Given.{wrong_state}
use Rattle.float.specs.Helpers.{decimal}
use Rattle.state.specs.Limits.{front_limit, front_node_limit, points_length, quads_length, quad_limit}
use Rattle.state.specs.Call.{held}
use Rattle.state.specs.Lent.{held_of}
use Rattle.tile_list.specs.declared.error.ListError.{ListError}
use Rattle.tile_list.specs.declared.error.ListError.TheVariants.{Unreadable, WrongPair, WrongCorner}
use Rattle.tile_list.specs.declared.list.HeldList.{HeldList}
use Rattle.tile_text.specs.declared.list.ListRead.{ListRead}
use Rattle.tile_text.specs.Fields.{Lists, ListReadIs, lists}
use Rattle.tile_text.specs.Reading.{read_list}
use Rattle.tile_text.specs.TileList.{TileList, every_quad, four_different, pass_limit}

-- the number that refuses a list, and 0 where there is no reason to
abbrev pub number_of : ListError → ℕ
number_of Unreadable = 30
number_of WrongPair = 31
number_of WrongCorner = 32

abbrev pub verdict_number : {A : Type 0} → Result A ListError → ℕ
verdict_number (Ok x) = 0
verdict_number (Err e) = number_of e

-- the counts with the number of loops in the place of that of the fronts
abbrev pub with_loops : Counts → ℕ → Counts
with_loops c n = record {
  points = c.points;
  quads = c.quads;
  fronts = n;
  row_quads = c.row_quads;
  core_quads = c.core_quads;
  row_rounds = c.row_rounds;
  passes_begun = c.passes_begun;
  laid = c.laid;
}

-- what a list's buffers hold: the state, and the state with the loops for its fronts
unfoldable pub allowed_held : Held → Held → Bool
allowed_held b o =
    not (wrong_state b) && not (wrong_state o) && not (eqb o.counts.fronts 0) && leb b.counts.passes_begun pass_limit && every_quad four_different (quads_of b.counts.quads b.quads)

-- the list that they hold
abbrev pub list_in : Held → Held → TileList
list_in b o = record { loops = (reading o).fronts; state = reading b }

-- ---- of the value that has the buffers

abbrev pub state_in : HeldList → Held
state_in l = held_of l.state l.counts

abbrev pub loops_in : HeldList → Held
loops_in l = held l.state.points.now l.state.quads.now l.loop_nodes.now l.loop_lengths.now (with_loops l.counts l.loops)

abbrev pub list_of : HeldList → TileList
list_of l = list_in (state_in l) (loops_in l)

-- a text stands from the buffer's first place on, and ends at n
pub record Stands (text out : List ℕ) (n : ℕ) : Type 0 where
  pub bytes : take n out ≡ text
  pub place : n ≡ length text

-- the buffers before a list is read into them
abbrev pub no_lists : Lists
no_lists =
    lists (replicate front_node_limit 0) (replicate front_limit 0) (replicate points_length (decimal 0 0)) (replicate quads_length 0) (replicate quad_limit 0) (replicate front_node_limit 0) (replicate front_limit 0)

abbrev pub list_read : ℕ → Counts → ListRead
list_read loops counts = record { loops = loops; counts = counts }

-- a text was read into the buffers, where there was nothing before
abbrev pub ReadFrom : List ℕ → HeldList → Type 0
ReadFrom t l =
    ListReadIs t no_lists (lists l.loop_nodes.now l.loop_lengths.now l.state.points.now l.state.quads.now l.quad_lengths.now l.state.front_nodes.now l.state.front_lengths.now) (list_read l.loops l.counts)

-- what the test of a text answers: none, or the list in the buffers, whose writing then stands at the front of `out`
pub record ReadableIs (t out : List ℕ) (l : TileList) (r : Bool) : Type 0 where
  pub no : r ≡ false → read_list t ≡ none
  pub yes : r ≡ true → (read_list t ≡ some l) × (take (length t) out ≡ t)
