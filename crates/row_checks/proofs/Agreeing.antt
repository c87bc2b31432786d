-- The corner test of a row's quads on the old points and the new ones behind them is the test on the points where they stand.
use mathlib.Core.Path.{◌≡◌, refl, ◌∙◌, ap₂}
use mathlib.Core.Logic.{⊎_elim}
use mathlib.Core.Bool.{Bool, ◌&&◌}
use mathlib.Core.List.{List, [], ◌++◌}
use Prim.Native.Nat.{ℕ, zero, suc, ◌+◌, ◌*◌, ◌/◌, ◌%◌, ◌<◌}
use native.Mathlib.Nat.{not-suc-le-zero, le_of_suc-le-suc, eq-or-lt_of_le}
use native.Mathlib.Omega.{arith}
use lib.Ieee.{Float, nan}
use lib.ListN.{length, get_or, get_or-append}
use lib.Seq.{get_or-append-add, get_or_at}
use Rattle.geometry.specs.Rings.{point_at, next}
use Rattle.geometry.specs.Measures.{corners_pass}
use Rattle.state.specs.State.{Quad, quad}
use Rattle.pairs.proofs.Sides.{next_below}
use Rattle.rules.proofs.RowSides.{row-length}
use Rattle.rules.specs.Checks.{every, quad_passes, row_quads, new_quads, all_corners_pass}
use Rattle.row_checks.specs.Candidate.{corners_between}

every_same : (p q : ℕ → Bool) (n : ℕ) → ((i : ℕ) → i < n → p i ≡ q i) → every p n ≡ every q n
unfolding every
every_same p q zero f = refl
every_same p q (suc n) f = ap₂ ◌&&◌ (every_same p q n (λ i l. f i (omega arith))) (f n (omega arith))

-- ---- the row's quads by their places

quad_at : (old : List ℕ) (first n i : ℕ) (d : Quad) → i < n
    → get_or (row_quads old first n) i d ≡ quad (get_or old i 0) (get_or old (next (length old) i) 0) (first + next (length old) i) (first + i)
unfolding row_quads
quad_at old first zero i d l = absurd (not-suc-le-zero l)
quad_at old first (suc n) i d l =
    ⊎_elim
    (λ e. rw e (get_or_at (row_quads old first n) _ [] d n (row-length old first n)))
    (λ g. get_or-append (row_quads old first n) _ d i (rw (row-length old first n) g) ∙ quad_at old first n i d g)
    (eq-or-lt_of_le (le_of_suc-le-suc l))

-- ---- points of the old list and of the new one

point-before : (p q : List Float) (k : ℕ) → k * 2 + 1 < length p → point_at (p ++ q) k ≡ point_at p k
point-before p q k l = rw (get_or-append p q nan (k * 2) (omega arith), get_or-append p q nan (k * 2 + 1) l)

point-behind : (p q : List Float) (m k : ℕ) → m * 2 ≡ length p → point_at (p ++ q) (m + k) ≡ point_at q k
point-behind p q m k e =
    let x : (m + k) * 2 ≡ length p + k * 2 = omega arith in
    let y : (m + k) * 2 + 1 ≡ length p + (k * 2 + 1) = omega arith in
    rw (y, x, get_or-append-add p q (k * 2) nan, get_or-append-add p q (k * 2 + 1) nan)

-- points that come in pairs, and a front that names points that are there
module _ (limit : Float) (pts : List Float) (old : List ℕ) (row : List Float) (even : length pts % 2 ≡ 0) (below : (i : ℕ) → i < length old → get_or old i 0 * 2 + 1 < length pts) where
  abbrev n : ℕ
  n = length old

  abbrev between : ℕ → Bool
  between i = corners_pass limit (point_at pts (get_or old i 0)) (point_at pts (get_or old (next n i) 0)) (point_at row (next n i)) (point_at row i)

  corner_at : (i : ℕ) → i < n → quad_passes limit (pts ++ row) (get_or (new_quads pts old) i (quad 0 0 0 0)) ≡ between i
  unfolding quad_passes
  corner_at i l =
      let k = next_below n i l in
      let m : length pts / 2 * 2 ≡ length pts = omega arith in
      rw (
        quad_at old (length pts / 2) n i (quad 0 0 0 0) l,
        point-before pts row (get_or old i 0) (below i l),
        point-before pts row (get_or old (next n i) 0) (below (next n i) k),
        point-behind pts row (length pts / 2) (next n i) m,
        point-behind pts row (length pts / 2) i m,
      )

  pub corners_agree : all_corners_pass limit pts old row ≡ corners_between limit pts old row n
  corners_agree = every_same _ between n corner_at
