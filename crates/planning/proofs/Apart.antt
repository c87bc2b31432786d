-- Kept points are apart: no side of a loop's ring is as short as 1e-12 (`sides_long`). And a ring has only points that were given (`ring_within`).
use mathlib.Core.Path.{◌≡◌, refl, sym, subst}
use mathlib.Core.Bool.{Bool, true, false, cond, ◌&&◌, beq}
use mathlib.Core.List.{List, [], ◌∷◌, ◌++◌}
use Prim.Native.Nat.{ℕ, zero, suc, ◌+◌, ◌-◌, ◌*◌, ◌/◌, ◌%◌, ◌^◌, ◌≤◌, ◌<◌}
use native.Mathlib.Nat.{mul-pos, mul-le-mul_left, mul-le-mul_right, le_of_mul-le-mul_right}
use native.Mathlib.Numerals.{sub-one}
use native.Mathlib.Omega.{arith}
use lib.Dec.{T, eqb, ltb, lit<, lit≤}
use lib.ListN.{length, get_or, length-append, get_or-append}
use lib.Seq.{get_or-append-add}
use lib.Pow.{pow_pos}
use lib.Ieee.{Float, nan, inf, fin, binary64, round, lt, le}
use lib.Ieee.Order.{round_mono}
use lib.Ieee.Positive.{num, den, positive, den_pos, le→cross, above, above_of_le, own_value, mul_at}
use borrow.Author.Tests.{lt-ltb, ltb-true, ltb-false, eqb-true, eqb-false, eq-eqb, ne_eqb}
use Rattle.float.specs.Helpers.{decimal, absolute}
use Rattle.float.proofs.Least.{clear-round}
use Rattle.float.proofs.Within.{Within, within_finite, power_exact, round_under, whole_exact, mul_within, clear_mul, above_clear}
use Rattle.float.proofs.Lengths.{Plain, least_of_lem, size_least, first_longer, second_longer}
use Rattle.geometry.specs.F64.{◌⊖◌}
use Rattle.geometry.specs.declared.Point.{Point}
use Rattle.geometry.specs.Rings.{Ring, point_at, ring_of, next}
use Rattle.geometry.specs.Measures.{signed_area, side_length}
use Rattle.geometry.proofs.Flip.{length_flip}
use Rattle.geometry.proofs.Sizes.{All, all_none, all_two, all_append, PointWithin, RingWithin, point_at_lem, next_in, toward_within}
use Rattle.planning.specs.Ring.{closeness, close, kept, unclosed, reversed, turned, loop_ring}
use Rattle.planning.specs.Plan.{side_at}

-- ---- the points kept, and how many of them are left
module _ (limit : Float) (r : Ring) where
  kept_all : (n k : ℕ) → k ≤ r.size → RingWithin n r → All n (kept limit r k)
  unfolding kept
  kept_all n zero l h = all_none n
  kept_all n (suc k) l h = go (ltb 0 (length (kept limit r k)) && close limit (point_at (kept limit r k) (length (kept limit r k) / 2 - 1)) (r.at k)) (kept_all n k (omega arith) h)
    where
      go : (b : Bool) → All n (kept limit r k) → All n (cond b (kept limit r k) (kept limit r k ++ ((r.at k).x ∷ (r.at k).y ∷ [])))
      go true a = a
      go false a = let p = h k (omega arith) in all_append n (kept limit r k) ((r.at k).x ∷ (r.at k).y ∷ []) a (all_two n (r.at k).x (r.at k).y p.x p.y)

  kept_even : (k : ℕ) → length (kept limit r k) % 2 ≡ 0
  unfolding kept
  kept_even zero = refl
  kept_even (suc k) = go (ltb 0 (length (kept limit r k)) && close limit (point_at (kept limit r k) (length (kept limit r k) / 2 - 1)) (r.at k)) (kept_even k)
    where
      go : (b : Bool) → length (kept limit r k) % 2 ≡ 0 → length (cond b (kept limit r k) (kept limit r k ++ ((r.at k).x ∷ (r.at k).y ∷ []))) % 2 ≡ 0
      go true e = e
      go false e = omega (arith, length-append (kept limit r k) ((r.at k).x ∷ (r.at k).y ∷ []))

  -- a point kept next after another is not close to it
  kept_apart : (k i : ℕ) → (i + 1) * 2 + 1 < length (kept limit r k) → close limit (point_at (kept limit r k) i) (point_at (kept limit r k) (i + 1)) ≡ false
  unfolding kept
  kept_apart zero i l = absurd (omega arith)
  kept_apart (suc k) i l = go (ltb 0 (length q) && close limit (point_at q (length q / 2 - 1)) p) refl (λ m. kept_apart k i m) l
    where
      q : List Float
      q = kept limit r k

      p : Point
      p = r.at k

      more : List Float
      more = p.x ∷ p.y ∷ []

      before : (j : ℕ) → j * 2 + 1 < length q → point_at (q ++ more) j ≡ point_at q j
      before j h = rw (get_or-append q more nan (j * 2) (omega arith), get_or-append q more nan (j * 2 + 1) h)

      behind : (j : ℕ) → j * 2 ≡ length q → point_at (q ++ more) j ≡ p
      behind j h =
          let first : get_or (q ++ more) (j * 2) nan ≡ p.x = subst (λ n. get_or (q ++ more) n nan ≡ p.x) (omega arith) (get_or-append-add q more 0 nan) in
          let second : get_or (q ++ more) (j * 2 + 1) nan ≡ p.y = subst (λ n. get_or (q ++ more) n nan ≡ p.y) (omega arith) (get_or-append-add q more 1 nan) in
          rw (first, second)

      within : (b : Bool) → ltb ((i + 1) * 2 + 1) (length q) ≡ b → ((i + 1) * 2 + 1 < length q → close limit (point_at q i) (point_at q (i + 1)) ≡ false) → (ltb 0 (length q) && close limit (point_at q (length q / 2 - 1)) p) ≡ false → (i + 1) * 2 + 1 < length (q ++ more)
          → close limit (point_at (q ++ more) i) (point_at (q ++ more) (i + 1)) ≡ false
      within true s rest e l =
          let h = ltb-true ((i + 1) * 2 + 1) (length q) s in
          rw (before i (omega arith), before (i + 1) h) (rest h)
      within false s rest e l =
          let h = ltb-false ((i + 1) * 2 + 1) (length q) s in
          let all = length-append q more in
          let last : (i + 1) * 2 ≡ length q = omega (arith, kept_even k) in
          let place : length q / 2 - 1 ≡ i = omega arith in
          rw (before i (omega arith), behind (i + 1) last) (rw (lt-ltb 0 (length q) (omega arith), place) at e)

      go : (b : Bool) → (ltb 0 (length q) && close limit (point_at q (length q / 2 - 1)) p) ≡ b → ((i + 1) * 2 + 1 < length q → close limit (point_at q i) (point_at q (i + 1)) ≡ false) → (i + 1) * 2 + 1 < length (cond b q (q ++ more))
          → close limit (point_at (cond b q (q ++ more)) i) (point_at (cond b q (q ++ more)) (i + 1)) ≡ false
      go true e rest l = rest l
      go false e rest l = within (ltb ((i + 1) * 2 + 1) (length q)) refl rest e l

module _ (limit : Float) (q : List Float) where
  unclosed_few : (m : ℕ) → unclosed limit q m ≤ m
  unfolding unclosed
  unclosed_few zero = omega arith
  unclosed_few (suc zero) = omega arith
  unclosed_few (suc (suc m)) = go (close limit (point_at q 0) (point_at q (suc m))) (unclosed_few (suc m))
    where
      go : (b : Bool) → unclosed limit q (suc m) ≤ suc m → cond b (unclosed limit q (suc m)) (suc (suc m)) ≤ suc (suc m)
      go true l = omega arith
      go false l = omega arith

  -- the last point left is not close to the first
  unclosed_apart : (m : ℕ) → 1 < unclosed limit q m → close limit (point_at q 0) (point_at q (unclosed limit q m - 1)) ≡ false
  unfolding unclosed
  unclosed_apart zero l = absurd (omega arith)
  unclosed_apart (suc zero) l = absurd (omega arith)
  unclosed_apart (suc (suc m)) l = go (close limit (point_at q 0) (point_at q (suc m))) refl (λ k. unclosed_apart (suc m) k) l
    where
      go : (b : Bool) → close limit (point_at q 0) (point_at q (suc m)) ≡ b → (1 < unclosed limit q (suc m) → close limit (point_at q 0) (point_at q (unclosed limit q (suc m) - 1)) ≡ false) → 1 < cond b (unclosed limit q (suc m)) (suc (suc m))
          → close limit (point_at q 0) (point_at q (cond b (unclosed limit q (suc m)) (suc (suc m)) - 1)) ≡ false
      go true e rest l = rest l
      go false e rest l = rw (sub-one (suc (suc m))) e

pub ring_within : (n : ℕ) (h : Float) (ccw : Bool) (r : Ring) → RingWithin n r → RingWithin n (loop_ring h ccw r)
unfolding loop_ring turned
ring_within n h ccw r w = go (beq (lt (decimal 0 0) (signed_area given)) ccw)
  where
    q : List Float
    q = kept (closeness h) r r.size

    given : Ring
    given = ring_of q (unclosed (closeness h) q (length q / 2))

    here : RingWithin n given
    here i l = point_at_lem n q i (omega (arith, unclosed_few (closeness h) q (length q / 2))) (kept_all (closeness h) r n r.size (omega arith) w)

    go : (b : Bool) → RingWithin n (cond b given (reversed given))
    go true = here
    go false = λ i l. here (unclosed (closeness h) q (length q / 2) - 1 - i) (omega arith)

-- ---- how far apart points are that are not close
positive_of : (x : Float) → Within 1000000 x → T (above x) → T (positive x)
positive_of nan w a = absurd a
positive_of (inf s) w a = absurd w
positive_of (fin true m e) w a = absurd a
positive_of (fin false m e) w a = a

module _ (h : Float) (least : T (le (decimal 1 3) h)) (size : Within 1000000 h) where
  milli_positive : T (positive (decimal 1 3))
  unfolding round
  milli_positive = tt

  size_positive : T (positive h)
  size_positive = positive_of h size (above_of_le (decimal 1 3) h milli_positive least)

  limit_plain : Plain (closeness h)
  limit_plain =
      let milli : Within 1 (decimal 1 3) = round_under false 1 1000 1 1 (lit< tt) (lit< tt) (whole_exact 1 (lit≤ tt)) (lit≤ tt) in
      record {
        finite = within_finite (closeness h) 1000000 1 (mul_within (decimal 1 3) h 1 1000000 1000000 (lit≤ tt) (lit≤ tt) milli size);
        unsigned = clear_mul (decimal 1 3) h (clear-round binary64 1 1000) (above_clear h (decimal 1 3) milli_positive least);
      }

  -- the square of 0.001 is above 2 ^ -20
  milli_square : den (decimal 1 3) * den (decimal 1 3) ≤ num (decimal 1 3) * num (decimal 1 3) * 1048576
  unfolding round
  milli_square = lit≤ tt

  limit_least : den (closeness h) ≤ num (closeness h) * 2 ^ 20
  limit_least =
      let d = decimal 1 3 in
      once (den (closeness h)) (num (closeness h) * 2 ^ 20)
      (least_of_lem (round binary64 false 1 (2 ^ 20)) (closeness h) 1 (2 ^ 20) (power_exact 0 20 (lit≤ tt) (lit< tt)) limit_plain
      (subst (λ (v : Float). T (le (round binary64 false 1 (2 ^ 20)) v)) (sym (mul_at binary64 d h (num d) (den d) (num h) (den h) milli_positive size_positive (den_pos d) (den_pos h) (own_value d milli_positive) (own_value h size_positive)))
      (round_mono binary64 1 (2 ^ 20) (num d * num h) (den d * den h) (pow_pos 20) (mul-pos (den_pos d) (den_pos h))
      (le_of_mul-le-mul_right
      (enough (num d) (den d) (num h) (den h) (mul-le-mul_right (den h) milli_square) (mul-le-mul_left (num d * 1048576) (le→cross d h milli_positive size_positive least)))
      (den_pos d)))))
    where
      once : (k l : ℕ) → 1 * k ≤ l → k ≤ l
      once k l h = omega arith

      enough : (a b n d : ℕ) → b * b * d ≤ a * a * 1048576 * d → a * 1048576 * (a * d) ≤ a * 1048576 * (n * b) → 1 * (b * d) * b ≤ a * n * 1048576 * b
      enough a b n d p q = omega arith

  apart_longer : (a b : Point) → PointWithin 1000000 a → PointWithin 1000000 b → close (closeness h) a b ≡ false → le (side_length b a) (decimal 1 12) ≡ false
  unfolding close side_length
  apart_longer a b p q e = go (lt (absolute (a.x ⊖ b.x)) (closeness h)) refl e
    where
      w : PointWithin 2000000 (record { x = a.x ⊖ b.x; y = a.y ⊖ b.y })
      w = toward_within 1000000 (lit≤ tt) b a q p

      go : (t : Bool) → lt (absolute (a.x ⊖ b.x)) (closeness h) ≡ t → (t && lt (absolute (a.y ⊖ b.y)) (closeness h)) ≡ false → le (side_length b a) (decimal 1 12) ≡ false
      go true d f = second_longer (a.x ⊖ b.x) (a.y ⊖ b.y) w.x w.y (size_least (a.y ⊖ b.y) (closeness h) (within_finite (a.y ⊖ b.y) 2000000 1 w.y) limit_plain limit_least f)
      go false d f = first_longer (a.x ⊖ b.x) (a.y ⊖ b.y) w.x w.y (size_least (a.x ⊖ b.x) (closeness h) (within_finite (a.x ⊖ b.x) 2000000 1 w.x) limit_plain limit_least d)

  -- ---- the sides of a loop's ring
  module _ (given : Ring) (w : RingWithin 1000000 given) where
    abbrev q : List Float
    q = kept (closeness h) given given.size

    abbrev n : ℕ
    n = unclosed (closeness h) q (length q / 2)

    few : n ≤ length q / 2
    few = unclosed_few (closeness h) q (length q / 2)

    at_within : (i : ℕ) → i < n → PointWithin 1000000 (point_at q i)
    at_within i l = point_at_lem 1000000 q i (omega (arith, few)) (kept_all (closeness h) given 1000000 given.size (omega arith) w)

    side_longer : (i : ℕ) → 1 < n → i < n → le (side_length (point_at q i) (point_at q (next n i))) (decimal 1 12) ≡ false
    side_longer i some l = go (eqb (i + 1) n) refl
      where
        go : (b : Bool) → eqb (i + 1) n ≡ b → le (side_length (point_at q i) (point_at q (cond b 0 (i + 1)))) (decimal 1 12) ≡ false
        go true e =
            let place : n - 1 ≡ i = omega (arith, eqb-true (i + 1) n e) in
            apart_longer (point_at q 0) (point_at q i) (at_within 0 (omega arith)) (at_within i l)
            (subst (λ k. close (closeness h) (point_at q 0) (point_at q k) ≡ false) place (unclosed_apart (closeness h) q (length q / 2) some))
        go false e =
            let inside : i + 1 < n = omega (arith, eqb-false (i + 1) n e) in
            rw (length_flip (point_at q i) (point_at q (i + 1)))
            (apart_longer (point_at q i) (point_at q (i + 1)) (at_within i l) (at_within (i + 1) inside) (kept_apart (closeness h) given given.size i (omega (arith, few))))

    -- side i of the reversed ring is a side of the ring, from its end to its start
    back_side : (i : ℕ) → i < n → next n (n - 1 - next n i) ≡ n - 1 - i
    back_side i l = go (eqb (i + 1) n) refl
      where
        short : (i n : ℕ) → i + 1 < n → n - 1 - (i + 1) + 1 ≡ n → ⊥
        short i n l e = omega arith

        go : (b : Bool) → eqb (i + 1) n ≡ b → next n (n - 1 - cond b 0 (i + 1)) ≡ n - 1 - i
        go true e =
            let whole : n - 1 - 0 + 1 ≡ n = omega arith in
            rw (eq-eqb (n - 1 - 0 + 1) n whole) (omega (arith, eqb-true (i + 1) n e))
        go false e =
            let inside : i + 1 < n = omega (arith, eqb-false (i + 1) n e) in
            rw (ne_eqb (n - 1 - (i + 1) + 1) n (λ d. short i n inside d)) (omega arith)

    reversed_longer : (i : ℕ) → 1 < n → i < n → le (side_length (point_at q (n - 1 - i)) (point_at q (n - 1 - next n i))) (decimal 1 12) ≡ false
    reversed_longer i some l =
        let j = n - 1 - next n i in
        subst (λ k. le (side_length (point_at q k) (point_at q j)) (decimal 1 12) ≡ false) (back_side i l)
        (rw (length_flip (point_at q (next n j)) (point_at q j)) (side_longer j some (omega (arith, next_in n i l))))

    pub sides_long : (ccw : Bool) → 1 < (loop_ring h ccw given).size → (i : ℕ) → i < (loop_ring h ccw given).size → le (side_at (loop_ring h ccw given) i) (decimal 1 12) ≡ false
    unfolding loop_ring turned
    sides_long ccw = go (beq (lt (decimal 0 0) (signed_area (ring_of q n))) ccw)
      where
        go : (b : Bool) → 1 < (cond b (ring_of q n) (reversed (ring_of q n))).size → (i : ℕ) → i < (cond b (ring_of q n) (reversed (ring_of q n))).size
            → le (side_at (cond b (ring_of q n) (reversed (ring_of q n))) i) (decimal 1 12) ≡ false
        go true some i l = side_longer i some l
        go false some i l = reversed_longer i some l
