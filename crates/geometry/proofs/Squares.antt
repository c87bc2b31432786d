-- The least distance is the root of the least square.
use mathlib.Core.Path.{◌≡◌, refl, sym, ap, ◌∙◌}
use mathlib.Core.Bool.{Bool, true, false, not, cond, ◌||◌}
use mathlib.Core.List.{List, [], ◌∷◌}
use Prim.Native.Nat.{ℕ, zero, suc}
use lib.Dec.{T}
use lib.Ieee.{Float, nan, inf, fin, binary64, lt, le, is_nan, fits}
use lib.Ieee.Fits.{add-fits}
use Rattle.float.specs.Helpers.{lesser}
use Rattle.float.specs.Root.{root}
use Rattle.float.proofs.Order.{clear, root_number}
use Rattle.float.proofs.Least.{root-lesser, clear-square, clear-sum}
use Rattle.geometry.specs.declared.Point.{Point}
use Rattle.geometry.specs.Rings.{Ring}
use Rattle.geometry.specs.Measures.{side_length, segment_distance, short_in_paving, short_in_domain, ring_distance}
use Rattle.geometry.specs.Domain.{nearest_in_ring, nearest_from, distance_to_boundary}
use Rattle.geometry.specs.Squares.{square_to, segment_square, nearer, least_square, least_from}

-- an f64 that is a square, or a NaN
pub record Square (x : Float) : Type 0 where
  pub held : T (fits binary64 x)
  pub sign : T (clear x)

pick_square : (t : Bool) {a b : Float} → Square a → Square b → Square (cond t a b)
pick_square true s u = s
pick_square false s u = u

square_to_lem : (a b : Point) → Square (square_to a b)
square_to_lem a b = record { held = add-fits binary64 _ _; sign = clear-sum _ _ (clear-square _) (clear-square _) }

pub segment_square_lem : (short : Float) (p a b : Point) → Square (segment_square short p a b)
unfolding segment_square
segment_square_lem short p a b = pick_square (le (square_to a b) short) (square_to_lem a p) (square_to_lem _ p)

root_pick : (t : Bool) (a b : Float) → root (cond t a b) ≡ cond t (root a) (root b)
root_pick true a b = refl
root_pick false a b = refl

pub segment_root : (short : Float) (p a b : Point) → root (segment_square short p a b) ≡ segment_distance short p a b
unfolding segment_square segment_distance side_length
segment_root short p a b = root_pick (le (square_to a b) short) _ _

-- ---- a least one that is no NaN
pub record Least (x : Float) : Type 0 where
  pub square : Square x
  pub number : T (not (is_nan x))

is_false : (b : Bool) → T (not b) → b ≡ false
is_false true n = absurd n
is_false false n = refl

lesser_is : (a b : Float) → T (not (is_nan a)) → lesser a b ≡ nearer b a
unfolding lesser
lesser_is a b n = ap (λ (t : Bool). cond (t || lt b a) b a) (is_false (is_nan a) n)

nearer_number : (d s : Float) → T (not (is_nan s)) → T (not (is_nan (nearer d s)))
unfolding lt is_nan
nearer_number nan s n = n
nearer_number (inf t) s n = go (lt (inf t) s)
  where
    go : (b : Bool) → T (not (is_nan (cond b (inf t) s)))
    go true = tt
    go false = n
nearer_number (fin t m e) s n = go (lt (fin t m e) s)
  where
    go : (b : Bool) → T (not (is_nan (cond b (fin t m e) s)))
    go true = tt
    go false = n

module _ {d s : Float} (D : Square d) (S : Least s) where
  least_nearer : Least (nearer d s)
  least_nearer = record { square = pick_square (lt d s) D S.square; number = nearer_number d s S.number }

  root-nearer : root (nearer d s) ≡ lesser (root s) (root d)
  root-nearer = ap root (sym (lesser_is s d S.number)) ∙ root-lesser s d S.square.held D.held S.square.sign D.sign

  root-nearer-root : root (nearer d s) ≡ nearer (root d) (root s)
  root-nearer-root = root-nearer ∙ lesser_is (root s) (root d) (root_number s S.square.held S.square.sign S.number)

-- ---- over a ring's sides
module _ (p : Point) (r : Ring) {s : Float} (S : Least s) where
  least : (short : Float) (k : ℕ) → Least (least_square short p s r k)
  unfolding least_square
  least short zero = S
  least short (suc k) = least_nearer (segment_square_lem short p _ _) (least short k)

  paving_root : (k : ℕ) → root (least_square short_in_paving p s r k) ≡ ring_distance (root s) p r k
  unfolding least_square ring_distance
  paving_root zero = refl
  paving_root (suc k) = root-nearer (segment_square_lem short_in_paving p _ _) (least short_in_paving k) ∙ rw (paving_root k, segment_root)

  domain_root : (k : ℕ) → root (least_square short_in_domain p s r k) ≡ nearest_in_ring p (root s) r k
  unfolding least_square nearest_in_ring
  domain_root zero = refl
  domain_root (suc k) = root-nearer-root (segment_square_lem short_in_domain p _ _) (least short_in_domain k) ∙ rw (domain_root k, segment_root)

-- ---- from infinity
infinite : Least (inf false)
unfolding is_nan fits
infinite = record { square = record { held = tt; sign = tt }; number = tt }

infinite_root : root (inf false) ≡ inf false
unfolding root
infinite_root = refl

pub front_least : (p : Point) (r : Ring) (k : ℕ) → Least (least_square short_in_paving p (inf false) r k)
front_least p r k = least p r infinite short_in_paving k

-- `front_distance` takes one root
pub front-root : (p : Point) (r : Ring) (k : ℕ) → root (least_square short_in_paving p (inf false) r k) ≡ ring_distance (inf false) p r k
front-root p r k = paving_root p r infinite k ∙ rw infinite_root

rings-root : (p : Point) (rs : List Ring) {s : Float} → Least s → root (least_from p s rs) ≡ nearest_from p (root s) rs
unfolding least_from nearest_from
rings-root p [] S = refl
rings-root p (r ∷ rs) S = rings-root p rs (least p r S short_in_domain r.size) ∙ rw (domain_root p r S r.size)

-- and so does `distance_to_boundary`
pub outline_root : (p : Point) (rs : List Ring) → root (least_from p (inf false) rs) ≡ distance_to_boundary rs p
unfolding distance_to_boundary
outline_root p rs = rings-root p rs infinite ∙ rw infinite_root
