-- The steps of the loops over a ring's sides, said once for every ring.
use mathlib.Core.Path.{◌≡◌, refl, sym, ap, ◌∙◌}
use mathlib.Core.Bool.{Bool, true, false, not, cond, beq, true≢false}
use Prim.Native.Nat.{ℕ, ◌+◌, ◌-◌, ◌≤◌, ◌<◌}
use native.Mathlib.Numerals.{add-one}
use native.Mathlib.Omega.{arith}
use borrow.Author.Tests.{eq-eqb, ne_eqb}
use lib.Ieee.{Float, binary64, add, lt}
use Rattle.float.specs.Helpers.{decimal}
use Rattle.geometry.specs.declared.Point.{Point}
use Rattle.geometry.specs.Rings.{Ring, next, prev}
use Rattle.geometry.specs.Measures.{toward, cross, dot, sharp_turn, sharp_at, area_term, area_sum, side_length, length_sum, ray_crosses, inside_so_far, in_polygon}
use Rattle.geometry.specs.Squares.{segment_square, nearer, least_square}
use Rattle.geometry.proofs.Choices.{ray_beside}

turned : (s t : Bool) → not (beq s t) ≡ cond t (not s) s
turned true true = refl
turned true false = refl
turned false true = refl
turned false false = refl

-- the two ends of side i of the ring, as a loop reads them
pub record Ends (r : Ring) (i : ℕ) (a b : Point) : Type 0 where
  pub first : a ≡ r.at i
  pub second : b ≡ r.at (next r.size i)

module _ (r : Ring) (i : ℕ) (a b : Point) (ends : Ends r i a b) where
  pub area_step : (s t : Float) → s ≡ area_sum r i → t ≡ area_term a b → add binary64 s t ≡ area_sum r (i + 1)
  unfolding area_sum
  area_step s t hs ht = rw (add-one, hs, ht, ends.first, ends.second)

  pub length_step : (s t : Float) → s ≡ length_sum r i → t ≡ side_length a b → add binary64 s t ≡ length_sum r (i + 1)
  unfolding length_sum
  length_step s t hs ht = rw (add-one, hs, ht, ends.first, ends.second)

  pub crossing_step : (p : Point) (s t : Bool) → s ≡ inside_so_far p r i → t ≡ ray_crosses p a b → not (beq s t) ≡ inside_so_far p r (i + 1)
  unfolding inside_so_far
  crossing_step p s t hs ht = rw (add-one, ← ends.first, ← ends.second, ← ht, ← hs) (turned s t)

  pub square_step : (bound short : Float) (p : Point) (best s d u : Float) → short ≡ bound → s ≡ least_square bound p best r i → d ≡ segment_square short p a b
      → u ≡ nearer d s → u ≡ least_square bound p best r (i + 1)
  unfolding least_square
  square_step bound short p best s d u h hs hd hu = rw (add-one, hu, hs, hd, h, ends.first, ends.second)

-- ---- a ring's sides from point to point, with a turn of its own for the closing side
next_plain : (n i j : ℕ) → j ≡ i + 1 → i < n - 1 → next n i ≡ j
next_plain n i j e h = rw (ne_eqb (i + 1) n (λ (f : i + 1 ≡ n). omega arith)) (sym e)

next_last : (n i : ℕ) → 0 < n → i ≡ n - 1 → next n i ≡ 0
next_last n i h e = rw (eq-eqb (i + 1) n (omega arith)) refl

-- the sum has the sides before place i, and `a` is the point before it
pub record Added (r : Ring) (i : ℕ) (a : Point) (sum : Float) : Type 0 where
  pub here : a ≡ r.at (i - 1)
  pub total : sum ≡ area_sum r (i - 1)

pub none_added : (r : Ring) (a : Point) (s : Float) → a ≡ r.at 0 → s ≡ decimal 0 0 → Added r 1 a s
unfolding area_sum
none_added r a s h hs = record { here = h; total = hs }

module _ {r : Ring} {i : ℕ} {a : Point} {s : Float} (so_far : Added r i a s) (begun : 0 < i) where
  pub one_added : (j : ℕ) (b : Point) (t : Float) → j ≡ i + 1 → i < r.size → b ≡ r.at i → t ≡ area_term a b → Added r j b (add binary64 s t)
  one_added j b t e h hb ht =
      let before : j - 1 ≡ i = omega arith in
      let after : i - 1 + 1 ≡ j - 1 = omega arith in
      let ends : Ends r (i - 1) a b = record { first = so_far.here; second = rw (next_plain r.size (i - 1) i (omega arith) (omega arith)) hb } in
      record { here = hb ∙ ap r.at (sym before); total = area_step r (i - 1) a b ends s t so_far.total ht ∙ ap (area_sum r) after }

  pub all_added : (b : Point) (t : Float) → i ≡ r.size → b ≡ r.at 0 → t ≡ area_term a b → add binary64 s t ≡ area_sum r r.size
  all_added b t e hb ht =
      let whole : i - 1 + 1 ≡ r.size = omega arith in
      let ends : Ends r (i - 1) a b = record { first = so_far.here; second = rw (next_last r.size (i - 1) (omega arith) (omega arith)) hb } in
      area_step r (i - 1) a b ends s t so_far.total ht ∙ ap (area_sum r) whole

-- the ray: a side crossed turns the answer, so the closing side may come first
first_turned : (t : Bool) → t ≡ cond t true false
first_turned true = refl
first_turned false = refl

swapped : (c s t : Bool) → not (beq (cond c (not s) s) t) ≡ cond c (not (not (beq s t))) (not (beq s t))
swapped true true true = refl
swapped true true false = refl
swapped true false true = refl
swapped true false false = refl
swapped false true true = refl
swapped false true false = refl
swapped false false true = refl
swapped false false false = refl

-- `inside` has the closing side and the sides up to place i, whose point `below` tests
pub record Counted (p : Point) (r : Ring) (i : ℕ) (inside below : Bool) : Type 0 where
  pub place : i < r.size
  pub test : below ≡ lt p.y (r.at i).y
  pub count : inside ≡ cond (ray_crosses p (r.at (r.size - 1)) (r.at 0)) (not (inside_so_far p r i)) (inside_so_far p r i)

pub closing-counted : (p : Point) (r : Ring) (a b : Point) (t : Bool) → (r.size ≡ 0 → ⊥) → a ≡ r.at (r.size - 1) → b ≡ r.at 0 → t ≡ ray_crosses p a b → Counted p r 0 t (lt p.y b.y)
unfolding inside_so_far
closing-counted p r a b t some ha hb ht =
    record {
      place = omega (arith, some);
      test = rw hb;
      count = rw (ht, ha, hb) (first_turned (ray_crosses p (r.at (r.size - 1)) (r.at 0)));
    }

module _ {p : Point} {r : Ring} {i : ℕ} {inside below : Bool} (so_far : Counted p r i inside below) where
  pub one_counted : (a b : Point) (t : Bool) → i < r.size - 1 → a ≡ r.at i → b ≡ r.at (i + 1) → t ≡ ray_crosses p a b → Counted p r (i + 1) (not (beq inside t)) (lt p.y b.y)
  one_counted a b t h ha hb ht =
      let closing = ray_crosses p (r.at (r.size - 1)) (r.at 0) in
      let ends : Ends r i a b = record { first = ha; second = rw (next_plain r.size i (i + 1) refl h) hb } in
      record {
        place = omega arith;
        test = rw hb;
        count = rw (so_far.count, ← crossing_step r i a b ends p (inside_so_far p r i) t refl ht) (swapped closing (inside_so_far p r i) t);
      }

  -- a side whose ends are both above or both below
  pub one_beside : (b : Point) → i < r.size - 1 → b ≡ r.at (i + 1) → not (beq below (lt p.y b.y)) ≡ false → Counted p r (i + 1) inside below
  one_beside b h hb e =
      let k = alike below (lt p.y b.y) e in
      rw (kept inside, k.1) at (one_counted (r.at i) b false h refl hb (ray_beside p (r.at i) b below (lt p.y b.y) (so_far.test, refl) k.0))
    where
      alike : (u v : Bool) → not (beq u v) ≡ false → (beq u v ≡ true) × (v ≡ u)
      alike true true h = (refl, refl)
      alike true false h = absurd (true≢false h)
      alike false true h = absurd (true≢false h)
      alike false false h = (refl, refl)

      kept : (t : Bool) → not (beq t false) ≡ t
      kept true = refl
      kept false = refl

  pub all_counted : r.size - 1 ≤ i → inside ≡ in_polygon p r
  unfolding in_polygon
  all_counted passed =
      let some : 0 < r.size = omega (arith, so_far.place) in
      let e : i ≡ r.size - 1 = omega (arith, so_far.place) in
      let closing = ray_crosses p (r.at (r.size - 1)) (r.at 0) in
      let ends : Ends r i (r.at (r.size - 1)) (r.at 0) = record { first = ap r.at (sym e); second = ap r.at (sym (next_last r.size i some e)) } in
      let whole : i + 1 ≡ r.size = omega arith in
      so_far.count ∙ sym (turned (inside_so_far p r i) closing) ∙ crossing_step r i _ _ ends p (inside_so_far p r i) closing refl refl ∙ ap (inside_so_far p r) whole

pub no_sides : (p : Point) (r : Ring) → r.size ≡ 0 → false ≡ in_polygon p r
unfolding in_polygon inside_so_far
no_sides p r e = rw e

pub sharp_corner : (r : Ring) (i : ℕ) (a b c : Point) (t : Bool) → a ≡ r.at (prev r.size i) → b ≡ r.at i → c ≡ r.at (next r.size i)
    → t ≡ sharp_turn (cross (toward a b) (toward b c)) (dot (toward a b) (toward b c)) → t ≡ sharp_at r i
unfolding sharp_at
sharp_corner r i a b c t ha hb hc ht = rw (ht, ha, hb, hc)
