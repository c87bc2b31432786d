-- Which bytes are the text of a tile list, and what they mean: a text is readable when it is the writing of what its lines say. Definitions only.
use Rattle.std.specs.Prelude.{ℕ, cond, ◌&&◌, List, [], ◌∷◌, map, eqb, get_or, Float}
use Rattle.std.proofs.Math.Option.{Option, none, some}
use Rattle.std.specs.Float.{binary64}
use Rattle.std.specs.Float.Ieee.{of_bits}
use Rattle.state.specs.State.{Quad, quad, joined}
use Rattle.text.specs.Decimal.{spelled, same_bytes}
use Rattle.text.specs.Hex.{hex_spelled}
use Rattle.answer_text.specs.AnswerText.{tab, lf}
use Rattle.tile_text.specs.TileList.{TileList, list_text, allowed}

-- ---- lines and their fields

-- a byte before the first part
abbrev pub headed : ℕ → List (List ℕ) → List (List ℕ)
headed b [] = (b ∷ []) ∷ []
headed b (p ∷ ps) = (b ∷ p) ∷ ps

-- the parts of a text before, between and behind its marks
unfoldable pub parts : ℕ → List ℕ → List (List ℕ)
parts mark [] = [] ∷ []
parts mark (b ∷ bs) = cond (eqb b mark) ([] ∷ parts mark bs) (headed b (parts mark bs))

-- the fields of each line
unfoldable pub fields_of : List ℕ → List (List (List ℕ))
fields_of t = map (parts tab) (parts lf t)

-- of each line that begins with a word, the fields behind it
unfoldable pub worded : List ℕ → List (List (List ℕ)) → List (List (List ℕ))
worded word [] = []
worded word ([] ∷ ls) = worded word ls
worded word ((f ∷ fs) ∷ ls) = cond (same_bytes word f) (fs ∷ worded word ls) (worded word ls)

-- ---- what the lines say

abbrev pub numbers : List (List ℕ) → List ℕ
numbers fs = map (spelled 0) fs

abbrev pub coordinate : List ℕ → Float
coordinate f = of_bits binary64 (hex_spelled 0 f)

abbrev pub quad_of : List ℕ → Quad
quad_of ns = quad (get_or ns 0 0) (get_or ns 1 0) (get_or ns 2 0) (get_or ns 3 0)

-- `s`, `p`, `q` and `f` lines, and the last five counts of the `done` line; the first three are the lengths of the lists
unfoldable pub said : List (List (List ℕ)) → TileList
said ls =
    let counts = joined (map numbers (worded (100 ∷ 111 ∷ 110 ∷ 101 ∷ []) ls)) in record {
      loops = map numbers (worded (115 ∷ []) ls);
      state = record {
        points = map coordinate (joined (worded (112 ∷ []) ls));
        quads = map (λ (fs : List (List ℕ)). quad_of (numbers fs)) (worded (113 ∷ []) ls);
        fronts = map numbers (worded (102 ∷ []) ls);
        row_quads = get_or counts 3 0;
        core_quads = get_or counts 4 0;
        row_rounds = get_or counts 5 0;
        passes = get_or counts 6 0;
        laid = get_or counts 7 0;
      };
    }

-- whole lines in their order, counts that agree with them, numbers without leading zeros: all that the writing again tests
unfoldable pub read_list : List ℕ → Option TileList
read_list t = let l = said (fields_of t) in cond (same_bytes (list_text l) t && allowed l) (some l) none
