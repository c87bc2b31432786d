-- The text of an answer, as document 01 has it ("Plates to check"): lines end in LF, fields are parted by tabs. Definitions only.
use Rattle.std.specs.Prelude.{ℕ, List, [], ◌∷◌, ◌++◌, map, Float}
use Rattle.state.specs.Outcome.{Outcome, refused, gives}
use Rattle.state.specs.declared.Counts.{Counts}
use Rattle.state.specs.State.{State, Held, quad_nodes, counts_of, reading}
use Rattle.state.specs.Call.{Left}
use Rattle.text.specs.Decimal.{decimal_text}
use Rattle.text.specs.Hex.{bits_text}

abbrev pub tab : ℕ
tab = 9

abbrev pub lf : ℕ
lf = 10

-- a tab and the decimal digits for each number
unfoldable pub numbers_text : List ℕ → List ℕ
numbers_text [] = []
numbers_text (n ∷ ns) = (tab ∷ decimal_text n) ++ numbers_text ns

-- a line: its word, and numbers behind it
abbrev pub line_text : List ℕ → List ℕ → List ℕ
line_text word ns = word ++ (numbers_text ns ++ (lf ∷ []))

-- a line for each list of numbers
unfoldable pub lines_text : List ℕ → List (List ℕ) → List ℕ
lines_text word [] = []
lines_text word (ns ∷ rest) = line_text word ns ++ lines_text word rest

-- a line for each point: `p`, and the bits of x and y
abbrev pub point_text : Float → Float → List ℕ
point_text x y = 112 ∷ ((tab ∷ bits_text x) ++ ((tab ∷ bits_text y) ++ (lf ∷ [])))

unfoldable pub points_text : List Float → List ℕ
points_text [] = []
points_text (x ∷ []) = []
points_text (x ∷ y ∷ rest) = point_text x y ++ points_text rest

-- the eight counts in document 01's order
abbrev pub count_numbers : Counts → List ℕ
count_numbers c = c.points ∷ c.quads ∷ c.fronts ∷ c.row_quads ∷ c.core_quads ∷ c.row_rounds ∷ c.passes_begun ∷ c.laid ∷ []

-- `done` and the counts; a line for each point; `q` and the nodes of each quad; `f` and the nodes of each remaining front
unfoldable pub state_text : State → List ℕ
state_text s =
    line_text (100 ∷ 111 ∷ 110 ∷ 101 ∷ []) (count_numbers (counts_of s))
    ++ (points_text s.points ++ (lines_text (113 ∷ []) (map quad_nodes s.quads) ++ lines_text (102 ∷ []) s.fronts))

-- `refused` and the number
unfoldable pub refused_text : ℕ → List ℕ
refused_text n = line_text (114 ∷ 101 ∷ 102 ∷ 117 ∷ 115 ∷ 101 ∷ 100 ∷ []) (n ∷ [])

abbrev pub text_of : Outcome Counts → Held → List ℕ
text_of (gives c) b = state_text (reading b)
text_of (refused n) b = refused_text n

unfoldable pub answer_text : Left → List ℕ
answer_text x = text_of x.answer x.held
