-- A tile list tested, from its text to the answer's. Definitions only.
use Rattle.std.specs.Prelude.{ℕ, Bool, not, cond, List, [], ◌∷◌, ◌++◌, map, eqb, ltb}
use Rattle.std.proofs.Math.Option.{Option-elim}
use Rattle.std.proofs.Math.ListN as lists
use Rattle.state.specs.State.{quad_nodes, padded}
use Rattle.state.specs.Outcome.{first_true, test}
use Rattle.input.specs.Limit.{default_limit}
use Rattle.rules.specs.Checks.{quad_passes}
use Rattle.answer_text.specs.AnswerText.{refused_text}
use Rattle.pair_counts.specs.Twice.{all_twice}
use Rattle.tile_text.specs.TileList.{TileList, every_quad}
use Rattle.tile_text.specs.Reading.{read_list}

-- the sampled loops, the quads and the remaining fronts
abbrev pub rings : TileList → List (List ℕ)
rings l = l.loops ++ (map quad_nodes l.state.quads ++ l.state.fronts)

-- a pair of nodes is counted neither 0 nor 2 times
unfoldable pub wrong_pair : TileList → Bool
wrong_pair l = not (all_twice (rings l))

-- a quad does not pass the corner test with the default limit
unfoldable pub wrong_corner : TileList → Bool
wrong_corner l = not (every_quad (quad_passes default_limit l.state.points) l.state.quads)

-- 31 for a pair, then 32 for a corner, and 0 for a list that is accepted
unfoldable pub list_number : TileList → ℕ
list_number l = first_true (test 31 (wrong_pair l) ∷ test 32 (wrong_corner l) ∷ [])

-- an accepted list gives its own bytes back
unfoldable pub verdict_text : List ℕ → ℕ → List ℕ
verdict_text t n = cond (eqb n 0) t (refused_text n)

-- 30 for a text that is no list's, before every other number
unfoldable pub recheck_text : List ℕ → List ℕ
recheck_text t = Option-elim (read_list t) (refused_text 30) (λ (l : TileList). verdict_text t (list_number l))

-- ---- the call

-- how long a lent buffer must be: no list is longer
abbrev pub list_room : ℕ
list_room = 286720

-- what the call leaves: its result, and the whole content of the buffer
pub record Rechecked : Type 0 where
  pub result : ℕ
  pub out : List ℕ

abbrev pub rechecked : ℕ → List ℕ → Rechecked
rechecked n out = record { result = n; out = out }

-- A shorter buffer is left as it was, and the result is 0. Otherwise the answer's text with zeros behind it, and the text's length.
unfoldable pub recheck_call : List ℕ → List ℕ → Rechecked
recheck_call input out =
    cond (ltb (lists.length out) list_room) (rechecked 0 out)
    (rechecked (lists.length (recheck_text input)) (padded (lists.length out) 0 (recheck_text input)))
