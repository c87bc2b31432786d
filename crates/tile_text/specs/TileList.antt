-- A tile list: the sampled loops, and the state that was paved from them; which ones the desk can be handed, and the text. Definitions only.
use Rattle.std.specs.Prelude.{ℕ, ◌*◌, Bool, true, not, ◌&&◌, List, [], ◌∷◌, ◌++◌, eqb, leb, length}
use Rattle.state.specs.State.{State, Quad, quad_nodes, nodes, written}
use Rattle.state.specs.Given.{repeated, wrong_state}
use Rattle.answer_text.specs.AnswerText.{lines_text, state_text}

pub record TileList : Type 0 where
  pub loops : List (List ℕ)
  pub state : State

-- ---- its text: an `s` line of nodes for each loop, then the state as `pave` writes it

abbrev pub loops_text : List (List ℕ) → List ℕ
loops_text loops = lines_text (115 ∷ []) loops

unfoldable pub list_text : TileList → List ℕ
list_text l = loops_text l.loops ++ state_text l.state

-- ---- which lists are readable

abbrev pub pass_limit : ℕ
pass_limit = 64

-- p holds of every quad
unfoldable pub every_quad : (Quad → Bool) → List Quad → Bool
every_quad p [] = true
every_quad p (q ∷ qs) = p q && every_quad p qs

abbrev pub four_different : Quad → Bool
four_different q = not (repeated (quad_nodes q))

-- the loops in the place of the fronts: number 25 asks of them what a list asks of its loops, at most 16 of three or more nodes below the points, none twice, 2,048 at most
abbrev pub with_fronts : List (List ℕ) → State → State
with_fronts loops s = record {
  points = s.points;
  quads = s.quads;
  fronts = loops;
  row_quads = s.row_quads;
  core_quads = s.core_quads;
  row_rounds = s.row_rounds;
  passes = s.passes;
  laid = s.laid;
}

-- nothing that number 25 refuses, at most 64 passes, four different nodes in each quad, two coordinates for each point, and at least one loop
unfoldable pub allowed : TileList → Bool
allowed l =
    let s = l.state in
    not (wrong_state (written s)) && not (wrong_state (written (with_fronts l.loops s))) && not (eqb (length l.loops) 0) && leb s.passes pass_limit && every_quad four_different s.quads
    && eqb (length s.points) (nodes s * 2)
