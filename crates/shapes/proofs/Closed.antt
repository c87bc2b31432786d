-- A closed line through points, and one through nodes.
use mathlib.Core.Path.{◌≡◌, refl, ap}
use mathlib.Core.List.{List, [], ◌∷◌, ◌++◌, map, append_assoc}
use Prim.Native.Nat.{ℕ, zero, suc, ◌+◌, ◌-◌, ◌*◌, ◌<◌, ◌≤◌}
use native.Mathlib.Numerals.{add-one}
use native.Mathlib.Omega.{arith}
use lib.Ieee.{Float}
use lib.ListN.{length, get_or, drop, drop_of_length-le}
use lib.Seq.{drop-cons}
use Rattle.geometry.specs.declared.Point.{Point}
use Rattle.geometry.specs.Rings.{point_at}
use Rattle.std.specs.declared.ops.Range.{Range}
use Rattle.std.specs.List.{range_with_len}
use Rattle.state.specs.State.{joined, numbered}
use Rattle.text.specs.Words.{ascii}
use Rattle.shapes.specs.Places.{place_text}
use Rattle.shapes.specs.Shapes.{places_text, ring_text, rest_text, line_text}

pub line_next : (ps : List Point) (k : ℕ) (p : Point) → (k < length ps) × (p ≡ get_or ps k p) → rest_text (drop k ps) ≡ place_text p ++ rest_text (drop (k + 1) ps)
unfolding rest_text
line_next ps k p h = rw (add-one, drop-cons ps k p h.0, ← h.1)

pub line_end : (ps : List Point) (k : ℕ) → length ps ≤ k → rest_text (drop k ps) ≡ 90 ∷ []
unfolding rest_text
line_end ps k h = rw (drop_of_length-le ps h)

-- through the points of nodes
module _ (points : List Float) where
  rest_is : (ns : List ℕ) → rest_text (map (point_at points) ns) ≡ places_text points ns ++ (ascii "Z" ++ [])
  unfolding rest_text places_text
  rest_is [] = refl
  rest_is (n ∷ ns) = rw (rest_is ns, ← append_assoc)

  pub line_at : (ns : List ℕ) (p : List Float) (ms : List ℕ) → p ≡ points → ms ≡ ns → line_text (map (point_at p) ms) ≡ ring_text points ns
  unfolding line_text ring_text joined
  line_at ns p ms e h = rw (e, h) (ap (λ (t : List ℕ). ascii "M" ++ t) (rest_is ns))

-- the numbers of a range
pub run_is : (a n : ℕ) → range_with_len a n ≡ numbered a n
unfolding numbered
run_is a zero = refl
run_is a (suc n) = rw (add-one, run_is (suc a) n)

module _ {r : Range ℕ} (a n : ℕ) where
  pub run_at : r ≡ record { start = a; end = a + n } → range_with_len r.start (r.end - r.start) ≡ numbered a n
  run_at e = let k : a + n - a ≡ n = omega arith in rw (e, k) (run_is a n)

  -- every number is that of a point
  pub inside : {p q : List Float} {i : ℕ} → p ≡ q → r ≡ record { start = a; end = a + n } → (a + n) * 2 ≤ length q → i < r.end → i * 2 + 1 < length p
  inside e h room g = let k : r.end ≡ a + n = ap (λ (x : Range ℕ). x.end) h in rw e (omega arith)
