-- One turn of each loop: a text of many parts is its first part and the others.
use mathlib.Core.Path.{◌≡◌, refl, sym, ◌∙◌}
use mathlib.Core.List.{List, [], ◌∷◌, ◌++◌, map, append-nil}
use Prim.Native.Nat.{ℕ, zero, suc, ◌+◌, ◌-◌, ◌*◌, ◌/◌, ◌<◌, ◌≤◌}
use native.Mathlib.Numerals.{add-one}
use native.Mathlib.Omega.{arith}
use lib.Ieee.{Float}
use lib.ListN.{length, get_or, take, drop, drop_of_length-le, length-take, length-drop}
use lib.Seq.{drop-cons}
use Rattle.std.specs.Simd.{first_chunks}
use Rattle.float.specs.Helpers.{lesser}
use Rattle.geometry.specs.declared.Point.{Point}
use Rattle.geometry.specs.Domain.{sum_of}
use Rattle.geometry.specs.Rings.{point_at}
use Rattle.state.specs.State.{Quad, quad_nodes, quads_of, cut, numbered, joined}
use Rattle.state.proofs.Reading.{numbers-quads_of, length-quads_of}
use Rattle.state.proofs.Written.{quads_back}
use Rattle.shapes.specs.Places.{place_text}
use Rattle.shapes.specs.Shapes.{places_text, ring_text, path_text, loops_text, worst_of, step_of, tile_text, tiles_text, worst, quad_at, fronts_text, dot_text, dots_text}

-- ---- numbers in turn

numbered_next : (first n i : ℕ) → i < n → numbered (first + i) (n - i) ≡ (first + i) ∷ numbered (first + (i + 1)) (n - (i + 1))
unfolding numbered
numbered_next first n i h =
    let e : n - i ≡ suc (n - (i + 1)) = omega arith in
    let f : first + (i + 1) ≡ suc (first + i) = omega arith in
    rw (e, f)

numbered_end : (first n i : ℕ) → n ≤ i → numbered (first + i) (n - i) ≡ []
unfolding numbered
numbered_end first n i h = let e : n - i ≡ 0 = omega arith in rw e

-- ---- places and dots

module _ (p : List Float) where
  pub places_next : (l : List ℕ) (i : ℕ) (v : Point) → i < length l → v ≡ point_at p (get_or l i 0) → places_text p (drop i l) ≡ place_text v ++ places_text p (drop (i + 1) l)
  unfolding places_text
  places_next l i v h e = rw (e, add-one i, drop-cons l i 0 h)

  pub places_end : (l : List ℕ) (i : ℕ) → length l ≤ i → places_text p (drop i l) ≡ []
  unfolding places_text
  places_end l i h = rw (drop_of_length-le l h)

  module _ (first n : ℕ) where
    pub run_begin : places_text p (numbered first n) ≡ places_text p (numbered (first + 0) (n - 0))
    run_begin = let e : n - 0 ≡ n = omega arith in let f : first + 0 ≡ first = omega arith in rw (e, f)

    module _ (i : ℕ) where
      pub run_next : (v : Point) → i < n → v ≡ point_at p (first + i) → places_text p (numbered (first + i) (n - i)) ≡ place_text v ++ places_text p (numbered (first + (i + 1)) (n - (i + 1)))
      unfolding places_text
      run_next v h e = rw (e, numbered_next first n i h)

      pub run_end : n ≤ i → places_text p (numbered (first + i) (n - i)) ≡ []
      unfolding places_text
      run_end h = rw (numbered_end first n i h)

  pub dots_begin : (n : ℕ) → dots_text p (numbered 0 n) ≡ dots_text p (numbered 0 (n - 0))
  dots_begin n = let e : n - 0 ≡ n = omega arith in rw e

  pub dots_next : (n i : ℕ) (v : Point) → i < n → v ≡ point_at p i → dots_text p (numbered i (n - i)) ≡ dot_text v ++ dots_text p (numbered (i + 1) (n - (i + 1)))
  unfolding dots_text numbered
  dots_next n i v h e = let k : n - i ≡ suc (n - (i + 1)) = omega arith in rw (e, k, add-one i)

  pub dots_end : (n i : ℕ) → n ≤ i → dots_text p (numbered i (n - i)) ≡ []
  unfolding dots_text numbered
  dots_end n i h = let k : n - i ≡ 0 = omega arith in rw k

  -- ---- loops

  pub loops-next : (l : List ℕ) (first i v : ℕ) → i < length l → v ≡ get_or l i 0 → loops_text p first (drop i l) ≡ ring_text p (numbered first v) ++ loops_text p (first + v) (drop (i + 1) l)
  unfolding loops_text
  loops-next l first i v h e = rw (e, add-one, drop-cons l i 0 h)

  pub loops_end : (l : List ℕ) (first i : ℕ) → length l ≤ i → loops_text p first (drop i l) ≡ []
  unfolding loops_text
  loops_end l first i h = rw (drop_of_length-le l h)

  -- ---- fronts

  pub fronts_next : (l xs : List ℕ) (i v : ℕ) → i < length l → v ≡ get_or l i 0
      → fronts_text p (cut (drop i l) xs) ≡ path_text 102 (ring_text p (take v xs)) ++ fronts_text p (cut (drop (i + 1) l) (drop v xs))
  unfolding fronts_text cut
  fronts_next l xs i v h e = rw (e, add-one, drop-cons l i 0 h)

  pub fronts_end : (l xs : List ℕ) (i : ℕ) → length l ≤ i → fronts_text p (cut (drop i l) xs) ≡ []
  unfolding fronts_text cut
  fronts_end l xs i h = rw (drop_of_length-le l h)

-- how many nodes are left
pub sum-next : (l : List ℕ) (i v : ℕ) → i < length l → v ≡ get_or l i 0 → sum_of (drop i l) ≡ v + sum_of (drop (i + 1) l)
unfolding sum_of
sum-next l i v h e = rw (e, add-one, drop-cons l i 0 h)

-- ---- quads

pub four_all : (l : List ℕ) → length l ≡ 4 → quad_nodes (quad_at l) ≡ l
four_all [] h = absurd (none h)
  where
    none : ◌≡◌ {A = ℕ} 0 4 → ⊥
    none h = omega arith
four_all (a ∷ []) h = absurd (none h)
  where
    none : ◌≡◌ {A = ℕ} 1 4 → ⊥
    none h = omega arith
four_all (a ∷ b ∷ []) h = absurd (none h)
  where
    none : ◌≡◌ {A = ℕ} 2 4 → ⊥
    none h = omega arith
four_all (a ∷ b ∷ c ∷ []) h = absurd (none h)
  where
    none : ◌≡◌ {A = ℕ} 3 4 → ⊥
    none h = omega arith
four_all (a ∷ b ∷ c ∷ d ∷ []) h = refl
four_all (a ∷ b ∷ c ∷ d ∷ e ∷ l) h = absurd (none (length l) h)
  where
    none : (n : ℕ) → suc (suc (suc (suc (suc n)))) ≡ 4 → ⊥
    none n h = omega arith

pub tile_is : (limit : Float) (p : List Float) (l : List ℕ) (v : Float) (k : ℕ) → length l ≡ 4 → v ≡ worst_of p (quad_at l) → k ≡ step_of limit v → path_text (65 + k) (ring_text p l) ≡ tile_text limit p (quad_at l)
unfolding tile_text
tile_is limit p l v k h e f = rw (f, e, four_all l h)

-- all quads of a list
abbrev pub quads_in : List ℕ → List Quad
quads_in xs = quads_of (length xs / 4) xs

fours : (q : Quad) (ys : List ℕ) → quads_in (quad_nodes q ++ ys) ≡ q ∷ quads_in ys
unfolding quads_of
fours q ys = let k : suc (suc (suc (suc (length ys)))) / 4 ≡ suc (length ys / 4) = omega arith in rw k

module _ (l : List ℕ) (n : ℕ) (h : n * 4 ≤ length l) where
  pub quads_begin : quads_in (take (n * 4) l) ≡ quads_of n l
  quads_begin =
      let qs : List Quad = quads_of n l in
      let k : length (take (n * 4) l) / 4 ≡ length qs = rw (length-take, length-quads_of n l) (omega arith) in
      let e : take (n * 4) l ≡ joined (map quad_nodes qs) ++ [] = sym (append-nil _ ∙ numbers-quads_of n l h) in
      rw (k, e) (quads_back qs [])

four_is : (xs : List ℕ) → 4 ≤ length xs → quad_at (take 4 xs) ≡ quad_at xs
four_is [] h = absurd (omega arith)
four_is (a ∷ []) h = absurd (omega arith)
four_is (a ∷ b ∷ []) h = absurd (omega arith)
four_is (a ∷ b ∷ c ∷ []) h = absurd (omega arith)
four_is (a ∷ b ∷ c ∷ d ∷ xs) h = refl

-- quads as a slice has them, four nodes each
chunked : (n : ℕ) (xs : List ℕ) → n * 4 ≤ length xs → map quad_at (first_chunks 4 n xs) ≡ quads_of n xs
unfolding quads_of
chunked zero xs h = refl
chunked (suc n) xs h =
    let l = length-drop 4 xs in
    rw (four_is xs (omega arith), chunked n (drop 4 xs) (omega arith))

pub all_chunked : (xs : List ℕ) → map quad_at (first_chunks 4 (length xs / 4) xs) ≡ quads_in xs
all_chunked xs = chunked (length xs / 4) xs (omega arith)

module _ (l : List (List ℕ)) (i : ℕ) where
  pub tiles_next : (limit : Float) (p : List Float) (x : List ℕ) → i < length l → x ≡ get_or l i [] → tiles_text limit p (map quad_at (drop i l)) ≡ tile_text limit p (quad_at x) ++ tiles_text limit p (map quad_at (drop (i + 1) l))
  unfolding tiles_text
  tiles_next limit p x h e = rw (e, add-one, drop-cons l i [] h)

  pub worst-next : (p : List Float) (x : List ℕ) (least v less : Float) → i < length l → x ≡ get_or l i [] → v ≡ worst_of p (quad_at x) → less ≡ lesser least v → worst least p (map quad_at (drop i l)) ≡ worst less p (map quad_at (drop (i + 1) l))
  unfolding worst
  worst-next p x least v less h a e f = rw (f, e, a, drop-cons l i [] h, add-one i)

  pub tiles_end : (limit : Float) (p : List Float) → length l ≤ i → tiles_text limit p (map quad_at (drop i l)) ≡ []
  unfolding tiles_text
  tiles_end limit p h = rw (drop_of_length-le l h)

  pub worst_end : (p : List Float) (least : Float) → length l ≤ i → worst least p (map quad_at (drop i l)) ≡ least
  unfolding worst
  worst_end p least h = rw (drop_of_length-le l h)
