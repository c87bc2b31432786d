-- How long what stands around a picture's shapes and words can be.
use mathlib.Core.Path.{◌≡◌}
use mathlib.Core.List.{List, [], ◌∷◌}
use Prim.Native.Nat.{ℕ, ◌+◌, ◌≤◌}
use native.Mathlib.Omega.{arith}
use lib.Ieee.{Float}
use lib.ListN.{length}
use Rattle.float.specs.Helpers.{decimal}
use Rattle.geometry.specs.F64.{◌⊕◌, ◌⊖◌, ◌⊗◌, ◌⊘◌}
use Rattle.rules.specs.Fan.{Box}
use Rattle.text.specs.Words.{ascii}
use Rattle.shapes.specs.Places.{across_text, up_text}
use Rattle.shapes.proofs.Lengths.{joined_total, across_length, up_length}
use Rattle.frames.specs.Views.{view_width, view_height, view_text, size_text, opening, paper, darker, lighter, strokes, style, head_text, middle_text, under_text, caption_text, closing, plain_head, plain_caption}

-- ---- around the shapes

module _ (b : Box) (m : Float) where
  view_length : length (view_text b m) ≤ 103
  unfolding view_text
  view_length =
      let t = joined_total (across_text (b.left ⊖ m) ∷ ascii " " ∷ up_text (b.high ⊕ m) ∷ ascii " " ∷ across_text (view_width b m) ∷ ascii " " ∷ across_text (view_height b m) ∷ []) in
      let x = across_length (b.left ⊖ m) in
      let y = up_length (b.high ⊕ m) in
      let w = across_length (view_width b m) in
      let h = across_length (view_height b m) in
      omega arith

  size-length : length (size_text b m) ≤ 25
  unfolding size_text
  size-length = across_length (view_width b m ⊘ decimal 72 0)

opening-length : length opening ≤ 64
unfolding opening
opening-length = omega arith

paper-length : length paper ≤ 192
unfolding paper
paper-length = omega arith

darker-length : length darker ≤ 96
unfolding darker
darker-length = omega arith

lighter-length : length lighter ≤ 96
unfolding lighter
lighter-length = omega arith

strokes-length : length strokes ≤ 192
unfolding strokes
strokes-length = omega arith

style-length : length style ≤ 576
unfolding style
style-length =
    let t = joined_total (paper ∷ darker ∷ lighter ∷ strokes ∷ []) in
    let a = paper-length in
    let b = darker-length in
    let c = lighter-length in
    let d = strokes-length in
    omega arith

head_length : (view size : List ℕ) → length (head_text view size) ≤ 653 + length view + length size
unfolding head_text
head_length view size =
    let t = joined_total (opening ∷ view ∷ ascii "\" font-size=\"" ∷ size ∷ style ∷ []) in
    let a = opening-length in
    let b = style-length in
    omega arith

pub frame_length : (b : Box) (m : Float) → length (head_text (view_text b m) (size_text b m)) ≤ 781
frame_length b m =
    let h = head_length (view_text b m) (size_text b m) in
    let v = view_length b m in
    let s = size-length b m in
    omega arith

caption_length : (x y : List ℕ) → length (caption_text x y) ≡ 16 + length x + length y
unfolding caption_text
caption_length x y = let t = joined_total (ascii "<text x=\"" ∷ x ∷ ascii "\" y=\"" ∷ y ∷ ascii "\">" ∷ []) in omega arith

pub place_length : (b : Box) (m : Float) → length (caption_text (middle_text b) (under_text b m)) ≤ 66
unfolding middle_text under_text
place_length b m =
    let t = caption_length (middle_text b) (under_text b m) in
    let x = across_length (b.left ⊕ decimal 5 1 ⊗ (b.right ⊖ b.left)) in
    let y = up_length (b.low ⊖ m ⊖ decimal 5 1 ⊗ m) in
    omega arith

pub closing-length : length closing ≤ 16
unfolding closing
closing-length = omega arith

-- ---- around words alone

pub plain_head_length : length plain_head ≤ 665
unfolding plain_head
plain_head_length = let h = head_length (ascii "0 0 720 40") (ascii "10") in omega arith

pub plain_caption_length : length plain_caption ≤ 21
unfolding plain_caption
plain_caption_length = let p = caption_length (ascii "360") (ascii "25") in omega arith
