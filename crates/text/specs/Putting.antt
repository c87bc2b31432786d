-- Text written into a lent buffer, from a place on: what a function that puts text asks, and what it leaves. Definitions only.
use Rattle.std.specs.Prelude.{ℕ, ◌+◌, ◌≤◌, ◌≡◌, List, length}
use Rattle.std.proofs.lemmas.List.Edits.{sets}

abbrev pub Room : List ℕ → ℕ → List ℕ → Type 0
Room out at text = at + length text ≤ length out

-- the text stands from `at` on, every other byte is as it was, and `next` is the place behind the text
pub record Put (before : List ℕ) (at : ℕ) (text after : List ℕ) (next : ℕ) : Type 0 where
  pub bytes : after ≡ sets before at text
  pub place : next ≡ at + length text
