-- How long the texts of shapes can be: a decimal has at most 20 digits, so a coordinate at most 25 bytes.
use mathlib.Core.Path.{◌≡◌, refl, ◌∙◌, ap}
use mathlib.Core.Bool.{Bool, true, false, not, cond, ◌&&◌}
use mathlib.Core.List.{List, [], ◌∷◌}
use Prim.Native.Nat.{ℕ, ◌+◌, ◌*◌, ◌/◌, ◌≤◌}
use native.Mathlib.Omega.{arith}
use lib.Dec.{eqb}
use lib.Ieee.{Float, lt}
use lib.ListN.{length, take, drop, length-append, length-take}
use Rattle.float.specs.Helpers.{decimal}
use Rattle.geometry.specs.declared.Point.{Point}
use Rattle.geometry.specs.Domain.{sum_of}
use Rattle.geometry.specs.Rings.{point_at}
use Rattle.state.specs.State.{Quad, quad_nodes, cut, numbered, joined}
use Rattle.state.proofs.Growing.{length-numbered}
use Rattle.text.specs.Decimal.{decimal_text}
use Rattle.text.specs.Words.{ascii}
use Rattle.text.proofs.Digits.{length_at_most}
use Rattle.shapes.specs.Places.{thousandths, sign_text, low_digits, fixed_text, across_text, up_text, place_text}
use Rattle.shapes.specs.Shapes.{places_text, ring_text, open_text, path_text, loops_text, worst_of, step_of, tile_text, tiles_text, fronts_text, dot_text, dots_text}

-- ---- pieces

abbrev pub total : List (List ℕ) → ℕ
total [] = 0
total (x ∷ xs) = length x + total xs

pub joined_total : (xs : List (List ℕ)) → length (joined xs) ≡ total xs
unfolding joined
joined_total [] = refl
joined_total (x ∷ xs) = length-append x (joined xs) ∙ ap (λ (n : ℕ). length x + n) (joined_total xs)

pub chosen_length : (b : Bool) (x y : List ℕ) (k : ℕ) → length x ≤ k → length y ≤ k → length (cond b x y) ≤ k
chosen_length true x y k h g = h
chosen_length false x y k h g = g

-- ---- places

sign_length : (minus : Bool) (n : ℕ) → length (sign_text minus n) ≤ 1
unfolding sign_text
sign_length minus n = chosen_length (minus && not (eqb n 0)) (ascii "-") [] 1 (omega arith) (omega arith)

fixed_length : (minus : Bool) (n : ℕ) → length (fixed_text minus n) ≤ 25
unfolding fixed_text
fixed_length minus n =
    let t = joined_total (sign_text minus n ∷ decimal_text (n / 1000) ∷ ascii "." ∷ low_digits n ∷ []) in
    let s = sign_length minus n in
    let d = length_at_most 20 (n / 1000) in
    omega arith

pub across_length : (x : Float) → length (across_text x) ≤ 25
unfolding across_text
across_length x = fixed_length (lt x (decimal 0 0)) (thousandths x)

pub up_length : (y : Float) → length (up_text y) ≤ 25
unfolding up_text
up_length y = fixed_length (lt (decimal 0 0) y) (thousandths y)

place_length : (p : Point) → length (place_text p) ≤ 52
unfolding place_text
place_length p =
    let t = joined_total (across_text p.x ∷ ascii " " ∷ up_text p.y ∷ ascii " " ∷ []) in
    let x = across_length p.x in
    let y = up_length p.y in
    omega arith

-- ---- rings, in a path

module _ (p : List Float) where
  places_length : (ns : List ℕ) → length (places_text p ns) ≤ 52 * length ns
  unfolding places_text
  places_length [] = omega arith
  places_length (n ∷ ns) =
      let h = places_length ns in
      let g = place_length (point_at p n) in
      rw (length-append (place_text (point_at p n)) (places_text p ns)) (omega arith)

  ring-length : (ns : List ℕ) → length (ring_text p ns) ≤ 52 * length ns + 2
  unfolding ring_text
  ring-length ns =
      let t = joined_total (ascii "M" ∷ places_text p ns ∷ ascii "Z" ∷ []) in
      let h = places_length ns in
      omega arith

open_length : (class : ℕ) → length (open_text class) ≡ 19
unfolding open_text
open_length class = joined_total (ascii "<path class=\"" ∷ (class ∷ []) ∷ ascii "\" d=\"" ∷ [])

pub path_length : (class : ℕ) (line : List ℕ) → length (path_text class line) ≡ length line + 23
unfolding path_text
path_length class line =
    let t = joined_total (open_text class ∷ line ∷ ascii "\"/>\n" ∷ []) in
    let h = open_length class in
    omega arith

-- ---- the four shapes

module _ (p : List Float) where
  pub loops-length : (first : ℕ) (ns : List ℕ) → length (loops_text p first ns) ≤ 52 * sum_of ns + 2 * length ns
  unfolding loops_text sum_of
  loops-length first [] = omega arith
  loops-length first (n ∷ ns) =
      let h = loops-length (first + n) ns in
      let g = ring-length p (numbered first n) in
      let l = length-numbered first n in
      rw (length-append (ring_text p (numbered first n)) (loops_text p (first + n) ns)) (omega arith)

  tile_length : (limit : Float) (q : Quad) → length (tile_text limit p q) ≤ 233
  unfolding tile_text
  tile_length limit q =
      let h = path_length (65 + step_of limit (worst_of p q)) (ring_text p (quad_nodes q)) in
      let g = ring-length p (quad_nodes q) in
      omega arith

  pub tiles_length : (limit : Float) (qs : List Quad) → length (tiles_text limit p qs) ≤ 233 * length qs
  unfolding tiles_text
  tiles_length limit [] = omega arith
  tiles_length limit (q ∷ qs) =
      let h = tiles_length limit qs in
      let g = tile_length limit q in
      rw (length-append (tile_text limit p q) (tiles_text limit p qs)) (omega arith)

  pub fronts_length : (l xs : List ℕ) → length (fronts_text p (cut l xs)) ≤ 52 * sum_of l + 25 * length l
  unfolding fronts_text cut sum_of
  fronts_length [] xs = omega arith
  fronts_length (n ∷ l) xs =
      let h = fronts_length l (drop n xs) in
      let g = path_length 102 (ring_text p (take n xs)) in
      let k = ring-length p (take n xs) in
      let t = length-take n xs in
      rw (length-append (path_text 102 (ring_text p (take n xs))) (fronts_text p (cut l (drop n xs)))) (omega arith)

  dot-length : (v : Point) → length (dot_text v) ≤ 55
  unfolding dot_text
  dot-length v =
      let t = joined_total (ascii "M" ∷ place_text v ∷ ascii "h0" ∷ []) in
      let h = place_length v in
      omega arith

  dots_length : (ns : List ℕ) → length (dots_text p ns) ≤ 55 * length ns
  unfolding dots_text
  dots_length [] = omega arith
  dots_length (n ∷ ns) =
      let h = dots_length ns in
      let g = dot-length (point_at p n) in
      rw (length-append (dot_text (point_at p n)) (dots_text p ns)) (omega arith)

  pub nodes-length : (class n : ℕ) → length (path_text class (dots_text p (numbered 0 n))) ≤ 55 * n + 23
  nodes-length class n =
      let h = path_length class (dots_text p (numbered 0 n)) in
      let g = dots_length (numbered 0 n) in
      let l = length-numbered 0 n in
      omega arith
