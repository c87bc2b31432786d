-- A side and a quad at place i, as the loops read them.
use mathlib.Core.Path.{◌≡◌}
use mathlib.Core.Bool.{Bool, not}
use mathlib.Core.List.{List}
use Prim.Native.Nat.{ℕ}
use lib.Ieee.{Float, lt}
use lib.ListN.{get_or}
use Rattle.geometry.specs.declared.Point.{Point}
use Rattle.geometry.specs.Rings.{next, point_at}
use Rattle.geometry.specs.Measures.{side_length, corners_pass}

-- the two tests that a turn makes
abbrev pub long_enough : Float → List Float → ℕ → ℕ → Bool
long_enough least row n i = not (lt (side_length (point_at row i) (point_at row (next n i))) least)

abbrev pub corners_good : Float → List Float → List ℕ → List Float → ℕ → ℕ → Bool
corners_good limit points old row n i = corners_pass limit (point_at points (get_or old i 0)) (point_at points (get_or old (next n i) 0)) (point_at row (next n i)) (point_at row i)

pub side_of : (row : List Float) (n i : ℕ) {j : ℕ} {a b : Point} {d : Float} → d ≡ side_length a b → a ≡ point_at row i → b ≡ point_at row j → j ≡ next n i
    → d ≡ side_length (point_at row i) (point_at row (next n i))
side_of row n i hd ha hb hj = rw (← hj, ← ha, ← hb) hd

pub corners_of : (limit : Float) (points row : List Float) (old : List ℕ) (n i : ℕ) {j : ℕ} {a b c d : Point} {r t : Bool} → r ≡ corners_pass limit a b c d
    → a ≡ point_at points (get_or old i 0) → b ≡ point_at points (get_or old j 0) → c ≡ point_at row j → d ≡ point_at row i → j ≡ next n i → r ≡ t
    → corners_good limit points old row n i ≡ t
corners_of limit points row old n i hr ha hb hc hd hj ht = rw (← hj, ← ha, ← hb, ← hc, ← hd, ← hr) ht
