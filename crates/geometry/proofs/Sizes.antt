-- Coordinates within a whole number: of lists, points and rings; and sides between such points.
use mathlib.Core.Path.{◌≡◌, refl}
use mathlib.Core.Bool.{Bool, true, false, cond}
use mathlib.Core.List.{List, [], ◌∷◌, ◌++◌}
use Prim.Native.Nat.{ℕ, zero, suc, ◌+◌, ◌*◌, ◌^◌, ◌≤◌, ◌<◌}
use native.Mathlib.Omega.{arith}
use lib.Dec.{T, eqb, lit≤}
use lib.ListN.{length, get_or, drop}
use lib.Ieee.{Float, nan, lt}
use borrow.Author.Tests.{eqb-false}
use Rattle.float.proofs.Within.{Within, within_less, sub_within, Times}
use Rattle.float.proofs.Lengths.{Long, long, first_twice, second_twice, length_within}
use Rattle.geometry.specs.declared.Point.{Point}
use Rattle.geometry.specs.Rings.{Ring, point_at, next}
use Rattle.geometry.specs.Measures.{toward, side_length}

-- ---- lists of coordinates
unfoldable pub All : ℕ → List Float → Type 0
All n [] = T true
All n (x ∷ xs) = Within n x × All n xs

pub all_none : (n : ℕ) → All n []
unfolding All
all_none n = tt

pub all_two : (n : ℕ) (x y : Float) → Within n x → Within n y → All n (x ∷ y ∷ [])
unfolding All
all_two n x y h k = (h, (k, tt))

pub all_more : (n : ℕ) (x y : Float) (xs : List Float) → Within n x → Within n y → All n xs → All n (x ∷ y ∷ xs)
unfolding All
all_more n x y xs h k g = (h, (k, g))

pub all_append : (n : ℕ) (xs ys : List Float) → All n xs → All n ys → All n (xs ++ ys)
unfolding All
all_append n [] ys h k = k
all_append n (x ∷ xs) ys h k = (h.0, all_append n xs ys h.1 k)

pub all_less : {a b : ℕ} (xs : List Float) → a ≤ b → All a xs → All b xs
unfolding All
all_less [] l h = tt
all_less (x ∷ xs) l h = (within_less x l h.0, all_less xs l h.1)

pub all_drop : (n k : ℕ) (xs : List Float) → All n xs → All n (drop k xs)
unfolding All
all_drop n zero xs h = h
all_drop n (suc k) [] h = h
all_drop n (suc k) (x ∷ xs) h = all_drop n k xs h.1

pub all_at : (n : ℕ) (xs : List Float) (i : ℕ) → i < length xs → All n xs → Within n (get_or xs i nan)
unfolding All
all_at n [] i l h = absurd (omega arith)
all_at n (x ∷ xs) zero l h = h.0
all_at n (x ∷ xs) (suc i) l h = all_at n xs i (omega arith) h.1

-- ---- points and rings
pub record PointWithin (n : ℕ) (p : Point) : Type 0 where
  pub x : Within n p.x
  pub y : Within n p.y

abbrev pub RingWithin : ℕ → Ring → Type 0
RingWithin n r = (i : ℕ) → i < r.size → PointWithin n (r.at i)

pub point_at_lem : (n : ℕ) (xs : List Float) (i : ℕ) → i * 2 + 1 < length xs → All n xs → PointWithin n (point_at xs i)
point_at_lem n xs i l h = record { x = all_at n xs (i * 2) (omega arith) h; y = all_at n xs (i * 2 + 1) l h }

pub next_in : (n i : ℕ) → i < n → next n i < n
next_in n i l = go (eqb (i + 1) n) refl
  where
    go : (b : Bool) → eqb (i + 1) n ≡ b → cond b 0 (i + 1) < n
    go true e = omega arith
    go false e = omega (arith, eqb-false (i + 1) n e)

-- ---- sides
module _ (n : ℕ) (few : n + n ≤ 2 ^ 53) (a b : Point) (p : PointWithin n a) (q : PointWithin n b) where
  pub toward_within : PointWithin (n + n) (toward a b)
  toward_within = record {
    x = sub_within (n + n) few b.x a.x n n (omega arith) q.x p.x;
    y = sub_within (n + n) few b.y a.y n n (omega arith) q.y p.y;
  }

  wide : PointWithin (2 ^ 53) (toward a b)
  wide = record { x = within_less (toward a b).x few toward_within.x; y = within_less (toward a b).y few toward_within.y }

  -- not shorter than t
  module _ (t : Float) (short : Long t) (h : lt (side_length a b) t ≡ false) where
    pub side_long : Long (side_length a b)
    unfolding side_length
    side_long = long (toward a b).x (toward a b).y wide.x wide.y t short h

    pub side_x : Times 2 (toward a b).x (side_length a b)
    unfolding side_length
    side_x = first_twice (toward a b).x (toward a b).y wide.x wide.y t short h

    pub side_y : Times 2 (toward a b).y (side_length a b)
    unfolding side_length
    side_y = second_twice (toward a b).x (toward a b).y wide.x wide.y t short h

pub side_within : (a b : Point) → PointWithin 1000000 a → PointWithin 1000000 b → Within 4194304 (side_length a b)
unfolding side_length
side_within a b p q = let w = toward_within 1000000 (lit≤ tt) a b p q in length_within (toward a b).x (toward a b).y w.x w.y
