-- The tests of the code, as the definitions have them.
use mathlib.Core.Path.{◌≡◌}
use mathlib.Core.List.{List, []}
use Prim.Native.Nat.{ℕ}
use borrow.Author.Tests.{eq-eqb, ne_eqb}
use lib.Ieee.{Float}
use Rattle.captions.specs.Captions.{least_text, corner_text, one_of, sentence}

pub corner_none : (quads : ℕ) (least : Float) → quads ≡ 0 → corner_text quads least ≡ []
unfolding corner_text
corner_none quads least e = rw (eq-eqb quads 0 e)

pub corner_some : (quads : ℕ) (least : Float) → (quads ≡ 0 → ⊥) → corner_text quads least ≡ least_text least
unfolding corner_text
corner_some quads least f = rw (ne_eqb quads 0 f)

module _ (n i j k : ℕ) (a b c : List ℕ) where
  pub one_of_first : n ≡ i → one_of n i a j b k c ≡ a
  unfolding one_of
  one_of_first e = rw (eq-eqb n i e)

  pub one_of_second : (n ≡ i → ⊥) → n ≡ j → one_of n i a j b k c ≡ b
  unfolding one_of
  one_of_second f e = rw (ne_eqb n i f, eq-eqb n j e)

  pub one_of_third : (n ≡ i → ⊥) → (n ≡ j → ⊥) → n ≡ k → one_of n i a j b k c ≡ c
  unfolding one_of
  one_of_third f g e = rw (ne_eqb n i f, ne_eqb n j g, eq-eqb n k e)

  pub one_of_none : (n ≡ i → ⊥) → (n ≡ j → ⊥) → (n ≡ k → ⊥) → one_of n i a j b k c ≡ []
  unfolding one_of
  one_of_none f g h = rw (ne_eqb n i f, ne_eqb n j g, ne_eqb n k h)

-- a number that a job's text cannot give
module _ (n : ℕ) where
  pub sentence_none : (n ≡ 1 → ⊥) → (n ≡ 4 → ⊥) → (n ≡ 6 → ⊥) → (n ≡ 7 → ⊥) → (n ≡ 10 → ⊥) → (n ≡ 11 → ⊥) → (n ≡ 21 → ⊥) → [] ≡ sentence n
  unfolding sentence
  sentence_none a b c d e f g = rw (one_of_none n 1 4 6 _ _ _ a b c, one_of_none n 7 10 21 _ _ _ d e g, ne_eqb n 11 f)
