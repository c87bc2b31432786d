-- The text of numbers, points, quads and fronts, one a turn.
use mathlib.Core.Path.{◌≡◌, refl, sym, ◌∙◌, ap}
use mathlib.Core.List.{List, [], ◌∷◌, ◌++◌, map, append_assoc}
use Prim.Native.Nat.{ℕ, zero, suc, ◌+◌, ◌*◌, ◌/◌, ◌<◌, ◌≤◌}
use native.Mathlib.Numerals.{add-one}
use native.Mathlib.Omega.{arith}
use lib.Ieee.{Float}
use lib.ListN.{length, get_or, take, drop, drop_of_length-le}
use lib.Seq.{drop-cons, drop-drop, length-take-le}
use Rattle.geometry.specs.Domain.{sum_of}
use Rattle.state.specs.State.{Quad, quad, quad_nodes, quads_of, cut}
use Rattle.text.specs.Decimal.{decimal_text}
use Rattle.answer_text.specs.AnswerText.{tab, numbers_text, line_text, lines_text, point_text, points_text}

-- ---- numbers

pub numbers-append : (xs ys : List ℕ) → numbers_text (xs ++ ys) ≡ numbers_text xs ++ numbers_text ys
unfolding numbers_text
numbers-append [] ys = refl
numbers-append (x ∷ xs) ys = ap (λ t. (tab ∷ decimal_text x) ++ t) (numbers-append xs ys) ∙ sym (append_assoc (tab ∷ decimal_text x) (numbers_text xs) (numbers_text ys))

pub numbers-next : (l : List ℕ) (i v : ℕ) → i < length l → v ≡ get_or l i 0 → numbers_text (drop i l) ≡ (tab ∷ decimal_text v) ++ numbers_text (drop (i + 1) l)
unfolding numbers_text
numbers-next l i v h e = rw (e, add-one, drop-cons l i 0 h)

pub numbers_end : (l : List ℕ) (i : ℕ) → length l ≤ i → numbers_text (drop i l) ≡ []
unfolding numbers_text
numbers_end l i h = rw (drop_of_length-le l h)

-- and with something behind them
pub numbers_behind : (l : List ℕ) (i v : ℕ) (t : List ℕ) → i < length l → v ≡ get_or l i 0 → numbers_text (drop i l) ++ t ≡ (tab ∷ decimal_text v) ++ (numbers_text (drop (i + 1) l) ++ t)
numbers_behind l i v t h e = rw (numbers-next l i v h e) (append_assoc (tab ∷ decimal_text v) (numbers_text (drop (i + 1) l)) t)

-- ---- points

-- a point, and the points behind it
pub points_next : (s p r : List Float) (z : Float) → s ≡ p ++ r → length p ≡ 2 → points_text s ≡ point_text (get_or p 0 z) (get_or p 1 z) ++ points_text r
unfolding points_text
points_next s [] r z e h = absurd (omega arith)
points_next s (x ∷ []) r z e h = absurd (omega arith)
points_next s (x ∷ y ∷ []) r z e h = rw e
points_next s (x ∷ y ∷ w ∷ p) r z e h = absurd (omega arith)

pub points_end : (r : List Float) → length r < 2 → points_text r ≡ []
unfolding points_text
points_end [] h = refl
points_end (x ∷ []) h = refl
points_end (x ∷ y ∷ r) h = absurd (omega arith)

-- ---- quads and fronts

-- all whole quads of a list
abbrev pub all_quads : List ℕ → List Quad
all_quads q = quads_of (length q / 4) q

quads_of-take : (n : ℕ) (q : List ℕ) → n * 4 ≤ length q → quads_of n (take (n * 4) q) ≡ quads_of n q
unfolding quads_of
quads_of-take zero q h = refl
quads_of-take (suc n) [] h = absurd (omega arith)
quads_of-take (suc n) (a ∷ []) h = absurd (omega arith)
quads_of-take (suc n) (a ∷ b ∷ []) h = absurd (omega arith)
quads_of-take (suc n) (a ∷ b ∷ c ∷ []) h = absurd (omega arith)
quads_of-take (suc n) (a ∷ b ∷ c ∷ d ∷ q) h =
    let m : suc n * 4 ≡ suc (suc (suc (suc (n * 4)))) = omega arith in
    rw m (ap (λ (qs : List Quad). quad a b c d ∷ qs) (quads_of-take n q (omega arith)))

pub quads_begin : (n : ℕ) (q : List ℕ) → n * 4 ≤ length q → quads_of n q ≡ all_quads (take (n * 4) q)
quads_begin n q h =
    let l = length-take-le (n * 4) q h in
    let e : length (take (n * 4) q) / 4 ≡ n = omega arith in
    rw e (sym (quads_of-take n q h))

module _ (word : List ℕ) where
  -- a quad, and the quads behind it
  pub quads_next : (s p r : List ℕ) → s ≡ p ++ r → length p ≡ 4 → lines_text word (map quad_nodes (all_quads s)) ≡ line_text word p ++ lines_text word (map quad_nodes (all_quads r))
  unfolding lines_text quads_of
  quads_next s [] r e h = absurd (omega arith)
  quads_next s (a ∷ []) r e h = absurd (omega arith)
  quads_next s (a ∷ b ∷ []) r e h = absurd (omega arith)
  quads_next s (a ∷ b ∷ c ∷ []) r e h = absurd (omega arith)
  quads_next s (a ∷ b ∷ c ∷ d ∷ []) r e h =
      let m : suc (suc (suc (suc (length r)))) / 4 ≡ suc (length r / 4) = omega arith in
      rw (e, m)
  quads_next s (a ∷ b ∷ c ∷ d ∷ f ∷ p) r e h = absurd (omega arith)

  pub quads_end : (r : List ℕ) → length r < 4 → lines_text word (map quad_nodes (all_quads r)) ≡ []
  unfolding lines_text quads_of
  quads_end r h = let m : length r / 4 ≡ 0 = omega arith in rw m

  pub fronts_next : (l xs : List ℕ) (i start v len : ℕ) → i < length l → v ≡ get_or l i 0 → len ≡ v
      → lines_text word (cut (drop i l) (drop start xs)) ≡ line_text word (take len (drop start xs)) ++ lines_text word (cut (drop (i + 1) l) (drop (start + v) xs))
  unfolding lines_text cut
  fronts_next l xs i start v len h e f = rw (f, e, add-one, drop-cons l i 0 h, drop-drop (get_or l i 0) start xs)

  pub fronts_end : (l xs : List ℕ) (i start : ℕ) → length l ≤ i → lines_text word (cut (drop i l) (drop start xs)) ≡ []
  unfolding lines_text cut
  fronts_end l xs i start h = rw (drop_of_length-le l h)

-- ---- how many nodes are left

pub nodes-next : (l : List ℕ) (i v : ℕ) → i < length l → v ≡ get_or l i 0 → sum_of (drop i l) ≡ v + sum_of (drop (i + 1) l)
unfolding sum_of
nodes-next l i v h e = rw (e, add-one, drop-cons l i 0 h)
