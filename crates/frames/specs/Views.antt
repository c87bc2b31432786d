-- What stands around a picture: its view box, styles, and where its words are. Definitions only.
use Rattle.std.specs.Prelude.{ℕ, List, [], ◌∷◌, Float}
use Rattle.float.specs.Helpers.{decimal, greater}
use Rattle.geometry.specs.F64.{◌⊕◌, ◌⊖◌, ◌⊗◌, ◌⊘◌}
use Rattle.state.specs.State.{joined}
use Rattle.rules.specs.Fan.{Box}
use Rattle.text.specs.Words.{ascii}
use Rattle.shapes.specs.Places.{across_text, up_text}

-- ---- the view box: the outline's box with a margin of a twentieth of its longer side and one size, and below it room for the words

unfoldable pub margin : Box → Float → Float
margin b h = decimal 5 2 ⊗ greater (b.right ⊖ b.left) (b.high ⊖ b.low) ⊕ h

abbrev pub view_width : Box → Float → Float
view_width b m = b.right ⊖ b.left ⊕ m ⊕ m

abbrev pub view_height : Box → Float → Float
view_height b m = b.high ⊖ b.low ⊕ m ⊕ m ⊕ m

unfoldable pub view_text : Box → Float → List ℕ
view_text b m =
    joined
    (across_text (b.left ⊖ m)
    ∷ ascii " "
    ∷ up_text (b.high ⊕ m)
    ∷ ascii " "
    ∷ across_text (view_width b m)
    ∷ ascii " "
    ∷ across_text (view_height b m)
    ∷ [])

-- ---- the head; one em is a 72nd of the view's width, so that a line of 125 letters fits, and lines are as thick as em say

unfoldable pub size_text : Box → Float → List ℕ
size_text b m = across_text (view_width b m ⊘ decimal 72 0)

unfoldable pub opening : List ℕ
opening = ascii "<svg xmlns=\"http://www.w3.org/2000/svg\" viewBox=\""

unfoldable pub paper : List ℕ
paper = ascii "\">\n<style>svg{background:#fff;font-family:sans-serif}text{text-anchor:middle}path{stroke-linejoin:round;stroke-linecap:round;stroke:#fff;stroke-width:.05em}\n"

-- ten colours from dark blue to yellow, in steps of brightness that show without red and green
unfoldable pub darker : List ℕ
darker = ascii ".A{fill:#00224e}.B{fill:#123570}.C{fill:#3b496c}.D{fill:#575d6d}.E{fill:#707173}"

unfoldable pub lighter : List ℕ
lighter = ascii ".F{fill:#8a8678}.G{fill:#a59c74}.H{fill:#c3b369}.I{fill:#e1cc55}.J{fill:#fee838}\n"

-- outline, fronts, nodes, sampled nodes
unfoldable pub strokes : List ℕ
strokes = ascii ".o{fill:none;stroke:#000;stroke-width:.1em}.f{fill:none;stroke:#d55e00;stroke-width:.3em}.n{stroke:#000;stroke-width:.2em}.s{stroke:#0072b2;stroke-width:.4em}</style>\n"

unfoldable pub style : List ℕ
style = joined (paper ∷ darker ∷ lighter ∷ strokes ∷ [])

unfoldable pub head_text : List ℕ → List ℕ → List ℕ
head_text view size = joined (opening ∷ view ∷ ascii "\" font-size=\"" ∷ size ∷ style ∷ [])

-- ---- the words' place, in the middle of the room under the plate, and the end behind the words

unfoldable pub middle_text : Box → List ℕ
middle_text b = across_text (b.left ⊕ decimal 5 1 ⊗ (b.right ⊖ b.left))

unfoldable pub under_text : Box → Float → List ℕ
under_text b m = up_text (b.low ⊖ m ⊖ decimal 5 1 ⊗ m)

unfoldable pub caption_text : List ℕ → List ℕ → List ℕ
caption_text x y = joined (ascii "<text x=\"" ∷ x ∷ ascii "\" y=\"" ∷ y ∷ ascii "\">" ∷ [])

unfoldable pub closing : List ℕ
closing = ascii "</text>\n</svg>\n"

-- ---- around words alone

unfoldable pub plain_head : List ℕ
plain_head = head_text (ascii "0 0 720 40") (ascii "10")

unfoldable pub plain_caption : List ℕ
plain_caption = caption_text (ascii "360") (ascii "25")
