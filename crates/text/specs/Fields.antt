-- Where a field of a text ends, and words at its head. Definitions only.
use Rattle.std.specs.Prelude as rust
use Rattle.std.specs.Prelude.{ℕ, ◌+◌, Bool, cond, ◌||◌, List, [], ◌∷◌, eqb, length, drop, Some, None}
use Rattle.std.proofs.Math.Option.{Option, none, some}

-- a tab or an LF ends a field
abbrev pub ends_field : ℕ → Bool
ends_field b = eqb b 9 || eqb b 10

-- the bytes before the first tab or LF, all of them where there is none
unfoldable pub field : List ℕ → List ℕ
field [] = []
field (b ∷ bs) = cond (ends_field b) [] (b ∷ field bs)

-- the text from there on
unfoldable pub after_field : List ℕ → List ℕ
after_field [] = []
after_field (b ∷ bs) = cond (ends_field b) (b ∷ bs) (after_field bs)

-- the first place from `at` on that holds a tab or an LF, or the end
unfoldable pub field_end : List ℕ → ℕ → ℕ
field_end t at = at + length (field (drop at t))

-- the text behind a word, where it begins with the word
unfoldable pub behind : List ℕ → List ℕ → Option (List ℕ)
behind [] t = some t
behind (w ∷ ws) [] = none
behind (w ∷ ws) (b ∷ bs) = cond (eqb w b) (behind ws bs) none

-- the place behind a word that is looked for at `at`, by the text behind it, if any
abbrev pub place_behind : List ℕ → ℕ → Option (List ℕ) → rust.Option ℕ
place_behind w at none = None
place_behind w at (some rest) = Some (at + length w)
