-- Which bytes of a word end a field, as bits of a word. Definitions only.
use Rattle.std.specs.Prelude.{ℕ, ◌+◌, ◌*◌, cond, List, [], ◌∷◌}
use Rattle.text.specs.Fields.{ends_field}

-- the number whose bytes these are, the lowest first
unfoldable pub word_of : List ℕ → ℕ
word_of [] = 0
word_of (b ∷ bs) = b + 256 * word_of bs

-- 128, the highest bit, for a byte that ends a field, and 0 for any other
abbrev pub end_flag : ℕ → ℕ
end_flag b = cond (ends_field b) 128 0
