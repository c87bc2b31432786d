-- How long the words of a picture can be.
use mathlib.Core.List.{List, [], ◌∷◌}
use Prim.Native.Nat.{ℕ, ◌+◌, ◌≤◌}
use native.Mathlib.Omega.{arith}
use lib.Dec.{eqb}
use lib.Ieee.{Float}
use lib.ListN.{length}
use Rattle.state.specs.declared.Counts.{Counts}
use Rattle.text.specs.Decimal.{decimal_text}
use Rattle.text.specs.Words.{ascii}
use Rattle.text.proofs.Digits.{length_at_most}
use Rattle.shapes.specs.Places.{across_text}
use Rattle.shapes.proofs.Lengths.{joined_total, chosen_length, across_length}
use Rattle.frames.specs.Views.{closing, plain_head, plain_caption}
use Rattle.frames.proofs.Lengths.{closing-length, plain_head_length, plain_caption_length}
use Rattle.captions.specs.Captions.{count_text, sizes_text, steps_text, least_text, corner_text, done_caption, one_of, input_sentence, paving_sentence, text_sentence, refused_caption, words_text}

-- ---- words

count_length : (name : List ℕ) (n : ℕ) → length (count_text name n) ≤ length name + 20
unfolding count_text
count_length name n =
    let t = joined_total (name ∷ decimal_text n ∷ []) in
    let d = length_at_most 20 n in
    omega arith

sizes_length : (c : Counts) → length (sizes_text c) ≤ 128
unfolding sizes_text
sizes_length c =
    let t = joined_total (count_text (ascii "points ") c.points ∷ count_text (ascii ", quads ") c.quads ∷ count_text (ascii ", fronts ") c.fronts ∷ count_text (ascii ", row_quads ") c.row_quads ∷ []) in
    let e = count_length (ascii "points ") c.points in
    let f = count_length (ascii ", quads ") c.quads in
    let g = count_length (ascii ", fronts ") c.fronts in
    let h = count_length (ascii ", row_quads ") c.row_quads in
    omega arith

steps_length : (c : Counts) → length (steps_text c) ≤ 128
unfolding steps_text
steps_length c =
    let t = joined_total (count_text (ascii ", core_quads ") c.core_quads ∷ count_text (ascii ", row_rounds ") c.row_rounds ∷ count_text (ascii ", passes ") c.passes_begun ∷ count_text (ascii ", laid ") c.laid ∷ []) in
    let e = count_length (ascii ", core_quads ") c.core_quads in
    let f = count_length (ascii ", row_rounds ") c.row_rounds in
    let g = count_length (ascii ", passes ") c.passes_begun in
    let h = count_length (ascii ", laid ") c.laid in
    omega arith

least_length : (x : Float) → length (least_text x) ≤ 40
unfolding least_text
least_length x =
    let t = joined_total (ascii ", least corner " ∷ across_text x ∷ []) in
    let h = across_length x in
    omega arith

corner_length : (n : ℕ) (x : Float) → length (corner_text n x) ≤ 40
unfolding corner_text
corner_length n x = chosen_length (eqb n 0) [] (least_text x) 40 (omega arith) (least_length x)

pub done_length : (c : Counts) (x : Float) → length (done_caption c x) ≤ 296
unfolding done_caption
done_length c x =
    let t = joined_total (sizes_text c ∷ steps_text c ∷ corner_text c.quads x ∷ []) in
    let a = sizes_length c in
    let b = steps_length c in
    let d = corner_length c.quads x in
    omega arith

sentence_length : (n i : ℕ) (a : List ℕ) (j : ℕ) (b : List ℕ) (k : ℕ) (c : List ℕ) → length a ≤ 80 → length b ≤ 80 → length c ≤ 80 → length (one_of n i a j b k c) ≤ 80
unfolding one_of
sentence_length n i a j b k c f g h = chosen_length (eqb n i) a _ 80 f (chosen_length (eqb n j) b _ 80 g (chosen_length (eqb n k) c [] 80 h (omega arith)))

pub refused_length : (n : ℕ) → length (refused_caption n) ≤ 270
unfolding refused_caption
refused_length n =
    let t = joined_total (ascii "refused " ∷ decimal_text n ∷ ascii ": " ∷ input_sentence n ∷ paving_sentence n ∷ text_sentence n ∷ []) in
    let d = length_at_most 20 n in
    let a : length (input_sentence n) ≤ 80 = sentence_length n 1 _ 4 _ 6 _ (omega arith) (omega arith) (omega arith) in
    let b : length (paving_sentence n) ≤ 80 = sentence_length n 7 _ 10 _ 21 _ (omega arith) (omega arith) (omega arith) in
    let c : length (text_sentence n) ≤ 80 = chosen_length (eqb n 11) (ascii "the text is not that of a job.") [] 80 (omega arith) (omega arith) in
    omega arith

-- ---- words alone

pub words_length : (n : ℕ) → length (words_text n) ≤ 1024
unfolding words_text
words_length n =
    let t = joined_total (plain_head ∷ plain_caption ∷ refused_caption n ∷ closing ∷ []) in
    let h = plain_head_length in
    let p = plain_caption_length in
    let r = refused_length n in
    let c = closing-length in
    omega arith
