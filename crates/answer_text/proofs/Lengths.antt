-- How long the lines of an answer can be.
use mathlib.Core.Path.{◌≡◌, ◌∙◌}
use mathlib.Core.List.{List, [], ◌∷◌, ◌++◌, map}
use Prim.Native.Nat.{ℕ, zero, suc, ◌+◌, ◌*◌, ◌<◌, ◌≤◌}
use native.Mathlib.Omega.{arith}
use lib.Ieee.{Float, binary64, to_bits}
use lib.ListN.{length, get_or, take, drop, length-append}
use lib.Seq.{get_or-drop}
use Rattle.geometry.specs.Domain.{sum_of}
use Rattle.state.specs.State.{quad_nodes, quads_of, cut}
use Rattle.text.specs.Decimal.{decimal_text}
use Rattle.text.specs.Hex.{bits_text}
use Rattle.text.proofs.Digits.{length_at_most, length_below, length_hex}
use Rattle.answer_text.specs.AnswerText.{tab, lf, numbers_text, line_text, lines_text, point_text, points_text}

-- every number of a list is a u16
abbrev pub Nodes : List ℕ → Type 0
Nodes xs = (i : ℕ) → get_or xs i 0 < 65536

later : (n : ℕ) (xs : List ℕ) → Nodes xs → Nodes (drop n xs)
later n xs f i = rw (get_or-drop n xs i 0) (f (n + i))

-- ---- numbers

pub any_numbers : (ns : List ℕ) → length (numbers_text ns) ≤ 21 * length ns
unfolding numbers_text
any_numbers [] = omega arith
any_numbers (n ∷ ns) =
    let h = any_numbers ns in
    let g = length_at_most 20 n in
    rw (length-append (tab ∷ decimal_text n) (numbers_text ns)) (omega arith)

pub node_numbers : (k : ℕ) (xs : List ℕ) → Nodes xs → length (numbers_text (take k xs)) ≤ 6 * k
unfolding numbers_text
node_numbers zero xs f = omega arith
node_numbers (suc k) [] f = omega arith
node_numbers (suc k) (x ∷ xs) f =
    let h = node_numbers k xs (λ i. f (suc i)) in
    let g = length_below 4 20 x (below (f 0)) in
    rw (length-append (tab ∷ decimal_text x) (numbers_text (take k xs))) (omega arith)
  where
    below : x < 65536 → x < 100000
    below h = omega arith

pub line_length : (word ns : List ℕ) → length (line_text word ns) ≡ length word + length (numbers_text ns) + 1
line_length word ns = length-append word (numbers_text ns ++ (lf ∷ [])) ∙ (let l = length-append (numbers_text ns) (lf ∷ []) in omega arith)

-- ---- points, quads, fronts

pub points_length_lem : (ps : List Float) → length (points_text ps) ≤ 18 * length ps
unfolding points_text
points_length_lem [] = omega arith
points_length_lem (x ∷ []) = omega arith
points_length_lem (x ∷ y ∷ ps) =
    let h = points_length_lem ps in
    let a = length_hex 16 (to_bits binary64 x) in
    let b = length_hex 16 (to_bits binary64 y) in
    let k = length-append (bits_text x) ((tab ∷ bits_text y) ++ (lf ∷ [])) in
    let m = length-append (bits_text y) (lf ∷ []) in
    rw (length-append (point_text x y) (points_text ps)) (omega arith)

module _ (letter : ℕ) where
  lines_length : (ns : List ℕ) (rest : List (List ℕ)) → length (lines_text (letter ∷ []) (ns ∷ rest)) ≡ length (numbers_text ns) + 2 + length (lines_text (letter ∷ []) rest)
  unfolding lines_text
  lines_length ns rest = length-append (line_text (letter ∷ []) ns) (lines_text (letter ∷ []) rest) ∙ (let l = line_length (letter ∷ []) ns in omega arith)

  pub quads_length_lem : (n : ℕ) (xs : List ℕ) → Nodes xs → length (lines_text (letter ∷ []) (map quad_nodes (quads_of n xs))) ≤ 26 * n
  unfolding lines_text quads_of
  quads_length_lem zero xs f = omega arith
  quads_length_lem (suc n) xs f =
      let four = get_or xs 0 0 ∷ get_or xs 1 0 ∷ get_or xs 2 0 ∷ get_or xs 3 0 ∷ [] in
      let h = quads_length_lem n (drop 4 xs) (later 4 xs f) in
      let g = node_numbers 4 four (small (f 0) (f 1) (f 2) (f 3)) in
      let l = lines_length four (map quad_nodes (quads_of n (drop 4 xs))) in
      omega arith
    where
      small : {a b c d : ℕ} → a < 65536 → b < 65536 → c < 65536 → d < 65536 → Nodes (a ∷ b ∷ c ∷ d ∷ [])
      small p q r s zero = p
      small p q r s (suc zero) = q
      small p q r s (suc (suc zero)) = r
      small p q r s (suc (suc (suc zero))) = s
      small p q r s (suc (suc (suc (suc i)))) = omega arith

  pub fronts_length : (l xs : List ℕ) → Nodes xs → length (lines_text (letter ∷ []) (cut l xs)) ≤ 2 * length l + 6 * sum_of l
  unfolding lines_text cut sum_of
  fronts_length [] xs f = omega arith
  fronts_length (n ∷ l) xs f =
      let h = fronts_length l (drop n xs) (later n xs f) in
      let g = node_numbers n xs f in
      let k = lines_length (take n xs) (cut l (drop n xs)) in
      omega arith
