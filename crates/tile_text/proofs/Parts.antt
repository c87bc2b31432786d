-- The parts of a text between its marks, and the fields of the lines that a list is written in.
use mathlib.Core.Path.{◌≡◌, refl, sym, ◌∙◌, ap}
use mathlib.Core.Bool.{Bool, true, false, cond}
use mathlib.Core.List.{List, [], ◌∷◌, ◌++◌, map, append_assoc, append-nil}
use Prim.Native.Nat.{ℕ, zero, suc, ◌+◌, ◌/◌, ◌%◌, ◌≤◌, ◌<◌}
use native.Mathlib.Omega.{arith}
use borrow.Author.Tests.{eq-eqb, ne_eqb}
use lib.Dec.{eqb, ltb}
use lib.Ieee.{Float, binary64, to_bits}
use Rattle.text.specs.Decimal.{digits, decimal_text}
use Rattle.text.specs.Hex.{hex_digit, hex_digits, bits_text}
use Rattle.answer_text.specs.AnswerText.{tab, lf, numbers_text, line_text, lines_text, point_text, points_text}
use Rattle.tile_text.specs.Reading.{parts, headed, fields_of}

-- no byte is a mark
abbrev pub Free : ℕ → List ℕ → Type 0
Free mark [] = Unit
Free mark (b ∷ bs) = (eqb b mark ≡ false) × Free mark bs

module _ (mark : ℕ) where
  pub free_append : (xs ys : List ℕ) → Free mark xs → Free mark ys → Free mark (xs ++ ys)
  free_append [] ys f g = g
  free_append (x ∷ xs) ys f g = (f.0, free_append xs ys f.1 g)

  pub parts_head : (xs rest : List ℕ) → Free mark xs → parts mark (xs ++ (mark ∷ rest)) ≡ xs ∷ parts mark rest
  unfolding parts
  parts_head [] rest f = rw (eq-eqb mark mark refl)
  parts_head (x ∷ xs) rest f = rw f.0 (ap (headed x) (parts_head xs rest f.1))

  pub parts_last : (xs : List ℕ) → Free mark xs → parts mark xs ≡ xs ∷ []
  unfolding parts
  parts_last [] f = refl
  parts_last (x ∷ xs) f = rw f.0 (ap (headed x) (parts_last xs f.1))

-- ---- digits are no marks

module _ (mark : ℕ) (m : mark < 48) where
  not_mark : (b : ℕ) → 48 ≤ b → eqb b mark ≡ false
  not_mark b h = ne_eqb b mark (λ e. omega arith)

  pub digits_free : (k n : ℕ) → Free mark (digits k n)
  unfolding digits
  digits_free zero n = tt
  digits_free (suc k) n = by (ltb n 10) (digits_free k (n / 10))
    where
      by : (s : Bool) → Free mark (digits k (n / 10)) → Free mark (cond s ((48 + n) ∷ []) (digits k (n / 10) ++ ((48 + n % 10) ∷ [])))
      by true f = (not_mark (48 + n) (omega arith), tt)
      by false f = free_append mark (digits k (n / 10)) _ f (not_mark (48 + n % 10) (omega arith), tt)

  hex_digit_from : (d : ℕ) → 48 ≤ hex_digit d
  hex_digit_from d = by (ltb d 10)
    where
      by : (s : Bool) → 48 ≤ cond s (48 + d) (55 + d)
      by true = omega arith
      by false = omega arith

  pub hex_free : (k n : ℕ) → Free mark (hex_digits k n)
  unfolding hex_digits
  hex_free zero n = tt
  hex_free (suc k) n = free_append mark (hex_digits k (n / 16)) _ (hex_free k (n / 16)) (not_mark (hex_digit (n % 16)) (hex_digit_from (n % 16)), tt)

-- ---- lines of numbers

numbers_free : (ns : List ℕ) → Free lf (numbers_text ns)
unfolding numbers_text
numbers_free [] = tt
numbers_free (n ∷ ns) = free_append lf (tab ∷ decimal_text n) (numbers_text ns) (refl, digits_free lf (omega arith) 20 n) (numbers_free ns)

number_fields : (word ns : List ℕ) → Free tab word → parts tab (word ++ numbers_text ns) ≡ word ∷ map decimal_text ns
unfolding numbers_text
number_fields word [] f = rw (append-nil) (parts_last tab word f)
number_fields word (n ∷ ns) f = parts_head tab word (decimal_text n ++ numbers_text ns) f ∙ ap (λ ps. word ∷ ps) (number_fields (decimal_text n) ns (digits_free tab (omega arith) 20 n))

-- the fields of a line of a word and numbers
abbrev pub number_line : List ℕ → List ℕ → List (List ℕ)
number_line word ns = word ∷ map decimal_text ns

module _ (word : List ℕ) (t : Free tab word) (f : Free lf word) where
  pub line_fields : (ns rest : List ℕ) → fields_of (line_text word ns ++ rest) ≡ number_line word ns ∷ fields_of rest
  unfolding fields_of
  line_fields ns rest =
      let shape : line_text word ns ++ rest ≡ (word ++ numbers_text ns) ++ (lf ∷ rest) =
      append_assoc word (numbers_text ns ++ (lf ∷ [])) rest ∙ ap (λ x. word ++ x) (append_assoc (numbers_text ns) (lf ∷ []) rest) ∙ sym (append_assoc word (numbers_text ns) (lf ∷ rest)) in
      ap (λ x. map (parts tab) (parts lf x)) shape
      ∙ ap (map (parts tab)) (parts_head lf (word ++ numbers_text ns) rest (free_append lf word (numbers_text ns) f (numbers_free ns)))
      ∙ ap (λ x. x ∷ map (parts tab) (parts lf rest)) (number_fields word ns t)

  pub lines_fields : (nss : List (List ℕ)) (rest : List ℕ) → fields_of (lines_text word nss ++ rest) ≡ map (number_line word) nss ++ fields_of rest
  unfolding lines_text
  lines_fields [] rest = refl
  lines_fields (ns ∷ nss) rest =
      ap fields_of (append_assoc (line_text word ns) (lines_text word nss) rest)
      ∙ line_fields ns (lines_text word nss ++ rest)
      ∙ ap (λ x. number_line word ns ∷ x) (lines_fields nss rest)

-- ---- lines of points

abbrev pub point_line : Float → Float → List (List ℕ)
point_line x y = (112 ∷ []) ∷ bits_text x ∷ bits_text y ∷ []

abbrev pub point_lines : List Float → List (List (List ℕ))
point_lines [] = []
point_lines (x ∷ []) = []
point_lines (x ∷ y ∷ rest) = point_line x y ∷ point_lines rest

point_fields_lem : (x y : Float) (rest : List ℕ) → fields_of (point_text x y ++ rest) ≡ point_line x y ∷ fields_of rest
unfolding fields_of
point_fields_lem x y rest =
    let X = bits_text x in
    let Y = bits_text y in
    let fx = hex_free lf (omega arith) 16 (to_bits binary64 x) in
    let fy = hex_free lf (omega arith) 16 (to_bits binary64 y) in
    let line : List ℕ = 112 ∷ ((tab ∷ X) ++ (tab ∷ Y)) in
    let shape : point_text x y ++ rest ≡ line ++ (lf ∷ rest) = ap (λ t. 112 ∷ tab ∷ t) (append_assoc X ((tab ∷ Y) ++ (lf ∷ [])) rest ∙ ap (λ t. X ++ (tab ∷ t)) (append_assoc Y (lf ∷ []) rest) ∙ sym (append_assoc X (tab ∷ Y) (lf ∷ rest))) in
    let whole : Free lf line = (refl, (refl, free_append lf X (tab ∷ Y) fx (refl, fy))) in
    let split : parts tab line ≡ point_line x y =
    parts_head tab (112 ∷ []) (X ++ (tab ∷ Y)) (refl, tt)
    ∙ ap (λ ps. (112 ∷ []) ∷ ps) (parts_head tab X Y (hex_free tab (omega arith) 16 (to_bits binary64 x)) ∙ ap (λ ps. X ∷ ps) (parts_last tab Y (hex_free tab (omega arith) 16 (to_bits binary64 y)))) in
    ap (λ t. map (parts tab) (parts lf t)) shape ∙ ap (map (parts tab)) (parts_head lf line rest whole) ∙ ap (λ p. p ∷ map (parts tab) (parts lf rest)) split

pub points_fields : (xs : List Float) (rest : List ℕ) → fields_of (points_text xs ++ rest) ≡ point_lines xs ++ fields_of rest
unfolding points_text
points_fields [] rest = refl
points_fields (x ∷ []) rest = refl
points_fields (x ∷ y ∷ xs) rest = ap fields_of (append_assoc (point_text x y) (points_text xs) rest) ∙ point_fields_lem x y (points_text xs ++ rest) ∙ ap (λ t. point_line x y ∷ t) (points_fields xs rest)
