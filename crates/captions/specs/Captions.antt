-- The line of words under a plate, and a picture of words alone. Definitions only.
use Rattle.std.specs.Prelude.{ℕ, cond, List, [], ◌∷◌, ◌++◌, eqb, Float}
use Rattle.state.specs.State.{joined}
use Rattle.state.specs.declared.Counts.{Counts}
use Rattle.text.specs.Decimal.{decimal_text}
use Rattle.text.specs.Words.{ascii}
use Rattle.shapes.specs.Places.{across_text}
use Rattle.frames.specs.Views.{closing, plain_head, plain_caption}

-- ---- a plate that is paved: the counts, and the least corner value where there are tiles

unfoldable pub count_text : List ℕ → ℕ → List ℕ
count_text name n = joined (name ∷ decimal_text n ∷ [])

unfoldable pub sizes_text : Counts → List ℕ
sizes_text c =
    joined
    (count_text (ascii "points ") c.points
    ∷ count_text (ascii ", quads ") c.quads
    ∷ count_text (ascii ", fronts ") c.fronts
    ∷ count_text (ascii ", row_quads ") c.row_quads
    ∷ [])

unfoldable pub steps_text : Counts → List ℕ
steps_text c =
    joined
    (count_text (ascii ", core_quads ") c.core_quads
    ∷ count_text (ascii ", row_rounds ") c.row_rounds
    ∷ count_text (ascii ", passes ") c.passes_begun
    ∷ count_text (ascii ", laid ") c.laid
    ∷ [])

unfoldable pub least_text : Float → List ℕ
least_text least = joined (ascii ", least corner " ∷ across_text least ∷ [])

unfoldable pub corner_text : ℕ → Float → List ℕ
corner_text quads least = cond (eqb quads 0) [] (least_text least)

unfoldable pub done_caption : Counts → Float → List ℕ
done_caption c least = joined (sizes_text c ∷ steps_text c ∷ corner_text c.quads least ∷ [])

-- ---- a refusal: its number, and a sentence for each number that a job's text can give; at most one of the three says something

-- the sentence of the number, of three
unfoldable pub one_of : ℕ → ℕ → List ℕ → ℕ → List ℕ → ℕ → List ℕ → List ℕ
one_of n i a j b k c = cond (eqb n i) a (cond (eqb n j) b (cond (eqb n k) c []))

abbrev pub input_sentence : ℕ → List ℕ
input_sentence n =
    one_of n
    1 (ascii "there are more than 16 loops or 2,048 points.")
    4 (ascii "the outer loop has fewer than three points.")
    6 (ascii "the outline has no area left; is the outer loop given counter-clockwise?")

abbrev pub paving_sentence : ℕ → List ℕ
paving_sentence n =
    one_of n
    7 (ascii "a loop has fewer than three points, close ones counted as one.")
    10 (ascii "the outline needs more than 2,048 nodes at this size.")
    21 (ascii "the plate needs more than 4,096 points or tiles at this size.")

abbrev pub text_sentence : ℕ → List ℕ
text_sentence n = cond (eqb n 11) (ascii "the text is not that of a job.") []

-- the three in one
unfoldable pub sentence : ℕ → List ℕ
sentence n = input_sentence n ++ paving_sentence n ++ text_sentence n

unfoldable pub refused_caption : ℕ → List ℕ
refused_caption n = joined (ascii "refused " ∷ decimal_text n ∷ ascii ": " ∷ input_sentence n ∷ paving_sentence n ∷ text_sentence n ∷ [])

-- ---- words alone: for a text that is no job, or has no point, or too many loops or points to draw

unfoldable pub words_text : ℕ → List ℕ
words_text n = joined (plain_head ∷ plain_caption ∷ refused_caption n ∷ closing ∷ [])
