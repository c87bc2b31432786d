-- What the functions that read a list's lines answer, where the text is a writing: for any other text they answer something, and writing it again finds out. Definitions only.
use Rattle.std.specs.Prelude.{ℕ, ◌+◌, ◌≤◌, ◌≡◌, false, List, [], ◌∷◌, ◌++◌, map, eqb, length, drop, Float}
use Rattle.std.proofs.lemmas.List.Edits.{sets}
use Rattle.state.specs.declared.Counts.{Counts}
use Rattle.state.specs.State.{joined, quad_nodes, counts_of}
use Rattle.answer_text.specs.AnswerText.{numbers_text, line_text, lines_text, points_text, count_numbers, lf}
use Rattle.text.specs.declared.read.Read.{Read}
use Rattle.tile_text.specs.TileList.{TileList, list_text}
use Rattle.tile_text.specs.Plain.{U16s, FiniteF64s, Plain}
use Rattle.tile_text.specs.declared.list.ListRead.{ListRead}
use Rattle.tile_text.specs.declared.list.ListBuffers.{ListBuffers}

-- a text does not go on with a letter
abbrev pub Unlike : ℕ → List ℕ → Type 0
Unlike letter [] = Unit
Unlike letter (b ∷ bs) = eqb b letter ≡ false

-- Numbers behind tabs, up to the line's end: counted, and stored from place `from` on; a store beyond the buffer's end stores nothing.
pub record NumbersReadIs (t : List ℕ) (at from : ℕ) (old new : List ℕ) (r : Read ℕ) : Type 0 where
  pub within : (at + r.value ≤ r.next) × (r.next ≤ length t)
  pub is : (ns rest : List ℕ) → U16s ns → drop at t ≡ numbers_text ns ++ (lf ∷ rest) → (r.value ≡ length ns) × (drop r.next t ≡ lf ∷ rest) × (new ≡ sets old from ns)

-- Lines of a letter and nodes, as long as they come: counted, their nodes and their lengths stored from the first place on.
pub record RingsReadIs (t : List ℕ) (at letter : ℕ) (old_nodes new_nodes old_lengths new_lengths : List ℕ) (r : Read ℕ) : Type 0 where
  pub within : (at + r.value ≤ r.next) × (r.next ≤ length t)
  pub is : (rings : List (List ℕ)) (rest : List ℕ) → U16s (joined rings) → U16s (map length rings) → drop at t ≡ lines_text (letter ∷ []) rings ++ rest → Unlike letter rest
      → (r.value ≡ length rings) × (drop r.next t ≡ rest) × (new_nodes ≡ sets old_nodes 0 (joined rings)) × (new_lengths ≡ sets old_lengths 0 (map length rings))

-- `p` lines as long as they come: counted, the coordinates stored from the first place on. A list of an odd number of coordinates has no writing of its own.
pub record PointsReadIs (t : List ℕ) (at : ℕ) (old new : List Float) (r : Read ℕ) : Type 0 where
  pub within : (at + r.value ≤ r.next) × (r.next ≤ length t)
  pub is : (n : ℕ) (xs : List Float) (rest : List ℕ) → length xs ≡ n + n → FiniteF64s xs → drop at t ≡ points_text xs ++ rest → Unlike 112 rest
      → (r.value ≡ n) × (drop r.next t ≡ rest) × (new ≡ sets old 0 xs)

-- The `done` line: its eight counts, and the place behind it.
pub record DoneReadIs (t : List ℕ) (at : ℕ) (r : Read Counts) : Type 0 where
  pub within : r.next ≤ length t
  pub is : (c : Counts) (rest : List ℕ) → U16s (count_numbers c) → drop at t ≡ line_text (100 ∷ 111 ∷ 110 ∷ 101 ∷ []) (count_numbers c) ++ rest → (r.value ≡ c) × (drop r.next t ≡ rest)

-- ---- the whole list

-- the buffers that a list is read into
pub record Lists : Type 0 where
  pub loop_nodes : List ℕ
  pub loop_lengths : List ℕ
  pub points : List Float
  pub quads : List ℕ
  pub quad_lengths : List ℕ
  pub front_nodes : List ℕ
  pub front_lengths : List ℕ

abbrev pub lists : List ℕ → List ℕ → List Float → List ℕ → List ℕ → List ℕ → List ℕ → Lists
lists n l p q k m f = record { loop_nodes = n; loop_lengths = l; points = p; quads = q; quad_lengths = k; front_nodes = m; front_lengths = f }

abbrev pub lists_in : ListBuffers → Lists
lists_in b = lists b.loop_nodes.now b.loop_lengths.now b.points.now b.quads.now b.quad_lengths.now b.front_nodes.now b.front_lengths.now

-- the same buffers, whatever they hold: a slice keeps its length
pub record Same (a b : ListBuffers) : Type 0 where
  pub loop_nodes : b.loop_nodes.ghost_name ≡ a.loop_nodes.ghost_name
  pub loop_lengths : b.loop_lengths.ghost_name ≡ a.loop_lengths.ghost_name
  pub points : b.points.ghost_name ≡ a.points.ghost_name
  pub quads : b.quads.ghost_name ≡ a.quads.ghost_name
  pub quad_lengths : b.quad_lengths.ghost_name ≡ a.quad_lengths.ghost_name
  pub front_nodes : b.front_nodes.ghost_name ≡ a.front_nodes.ghost_name
  pub front_lengths : b.front_lengths.ghost_name ≡ a.front_lengths.ghost_name
  pub loop_nodes_long : length b.loop_nodes.now ≡ length a.loop_nodes.now
  pub loop_lengths_long : length b.loop_lengths.now ≡ length a.loop_lengths.now
  pub points_long : length b.points.now ≡ length a.points.now
  pub quads_long : length b.quads.now ≡ length a.quads.now
  pub quad_lengths_long : length b.quad_lengths.now ≡ length a.quad_lengths.now
  pub front_nodes_long : length b.front_nodes.now ≡ length a.front_nodes.now
  pub front_lengths_long : length b.front_lengths.now ≡ length a.front_lengths.now

-- a list stored from the first place of each buffer on
abbrev pub stored_list : TileList → Lists → Lists
stored_list l b = record {
  loop_nodes = sets b.loop_nodes 0 (joined l.loops);
  loop_lengths = sets b.loop_lengths 0 (map length l.loops);
  points = sets b.points 0 l.state.points;
  quads = sets b.quads 0 (joined (map quad_nodes l.state.quads));
  quad_lengths = sets b.quad_lengths 0 (map length (map quad_nodes l.state.quads));
  front_nodes = sets b.front_nodes 0 (joined l.state.fronts);
  front_lengths = sets b.front_lengths 0 (map length l.state.fronts);
}

-- where the text is a list's writing: how many loops, the counts, and the list stored
pub record ListReadIs (t : List ℕ) (old new : Lists) (r : ListRead) : Type 0 where
  pub is : (l : TileList) → Plain l → list_text l ≡ t → (r.loops ≡ length l.loops) × (r.counts ≡ counts_of l.state) × (new ≡ stored_list l old)
