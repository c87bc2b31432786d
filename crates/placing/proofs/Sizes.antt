-- How far sampling can place a node: coordinates within 1,000,000, h up to 1,000,000 and a corner margin up to 100 give nodes within 419,777,216.
use mathlib.Core.Path.{◌≡◌, refl, subst}
use mathlib.Core.Logic.{inl, inr}
use mathlib.Core.Bool.{Bool, true, false, cond}
use mathlib.Core.List.{List, [], ◌∷◌}
use Prim.Native.Nat.{ℕ, zero, suc, ◌+◌, ◌*◌, ◌^◌, ◌≤◌, ◌<◌}
use native.Mathlib.Numerals.{add-one}
use native.Mathlib.Omega.{arith}
use lib.Dec.{T, lit<, lit≤}
use lib.ListN.{length}
use lib.IntN.{pos}
use lib.Ieee.{Float, binary64, of_int, lt, eq, le}
use borrow.Author.Tests.{ltb-false}
use Rattle.float.specs.Helpers.{decimal}
use Rattle.float.proofs.Order.{clear}
use Rattle.float.proofs.Least.{clear-round}
use Rattle.float.proofs.Within.{Within, NotNegative, within_less, whole_exact, round_under, add_within, sub_within, mul_within, within_upto, sub_upto, greater_within, whole_within, div_whole, clear_mul}
use Rattle.float.proofs.Lengths.{tiny_long, along_within}
use Rattle.geometry.specs.F64.{◌⊕◌, ◌⊖◌, ◌⊗◌, ◌⊘◌}
use Rattle.geometry.specs.declared.Point.{Point}
use Rattle.geometry.specs.Rings.{Ring, next}
use Rattle.geometry.specs.Measures.{sharp_at}
use Rattle.geometry.proofs.Sizes.{All, all_none, all_two, all_more, all_append, PointWithin, RingWithin, next_in, toward_within, side_long, side_x, side_y, side_within}
use Rattle.state.specs.Limits.{front_node_limit}
use Rattle.state.specs.Outcome.{gives}
use Rattle.state.proofs.Basics.{or_false}
use Rattle.state.proofs.Outcomes.{first_none, numbered_gives}
use Rattle.planning.specs.Ring.{loop_ring}
use Rattle.planning.specs.Plan.{side_at, margin, span, planned, parts}
use Rattle.placing.specs.Placed.{inner_point, inner_points, placed}
use Rattle.placing.specs.Loop.{sample_loop}
use Rattle.planning.proofs.Apart.{ring_within, sides_long}
use Rattle.placing.proofs.Placing.{count_step, room}

-- ---- a side's nodes
module _ (h corner_margin : Float) (r : Ring) (hw : Within 1000000 h) (hc : T (clear h)) (cw : Within 100 corner_margin) (cn : NotNegative corner_margin) (ring : RingWithin 1000000 r)
    (long : (i : ℕ) → i < r.size → le (side_at r i) (decimal 1 12) ≡ false) where
  margin_within : (i : ℕ) → Within 100000000 (margin h corner_margin r i)
  unfolding margin
  margin_within i = go (sharp_at r i)
    where
      go : (b : Bool) → Within 100000000 (cond b (corner_margin ⊗ h) (decimal 0 0))
      go true = mul_within corner_margin h 100 1000000 100000000 (lit≤ tt) (lit≤ tt) cw hw
      go false = round_under false 0 1 100000000 1 (lit< tt) (lit< tt) (whole_exact 100000000 (lit≤ tt)) (lit≤ tt)

  margin_not_negative : (i : ℕ) → NotNegative (margin h corner_margin r i)
  unfolding margin
  margin_not_negative i = go (sharp_at r i)
    where
      go : (b : Bool) → NotNegative (cond b (corner_margin ⊗ h) (decimal 0 0))
      go true = elim cn [ inl c ↦ inl (clear_mul corner_margin h c hc) | inr z ↦ inr (mul_within corner_margin h 0 1000000 0 (lit≤ tt) (lit≤ tt) z hw) ]
      go false = inl (clear-round binary64 0 1)

  -- a side i, its ends a and b
  module _ (i : ℕ) (l : i < r.size) where
    abbrev a : Point
    a = r.at i

    abbrev b : Point
    b = r.at (next r.size i)

    abbrev m : Float
    m = margin h corner_margin r i

    abbrev m' : Float
    m' = margin h corner_margin r (next r.size i)

    a_within : PointWithin 1000000 a
    a_within = ring i l

    b_within : PointWithin 1000000 b
    b_within = ring (next r.size i) (next_in r.size i l)

    not_short : lt (side_at r i) (decimal 1 12) ≡ false
    unfolding le
    not_short = (or_false (lt (side_at r i) (decimal 1 12)) (eq (side_at r i) (decimal 1 12)) (long i l)).0

    span_within : Within 4194304 (span h corner_margin r i)
    unfolding span
    span_within =
        let w = side_within a b a_within b_within in
        greater_within 204194304 4194304 (side_at r i ⊖ m ⊖ m')
        (sub_within 204194304 (lit≤ tt) (side_at r i ⊖ m) m' 104194304 100000000 (lit≤ tt) (sub_within 104194304 (lit≤ tt) (side_at r i) m 4194304 100000000 (lit≤ tt) w (margin_within i)) (margin_within (next r.size i)))
        (sub_upto 4194304 (lit≤ tt) (side_at r i ⊖ m) m' (sub_upto 4194304 (lit≤ tt) (side_at r i) m (within_upto 4194304 (side_at r i) w) (margin_not_negative i)) (margin_not_negative (next r.size i)))

    -- the jth of k inner points, along the side
    module _ (k j : ℕ) (few : k ≤ front_node_limit) (jk : j < k) where
      abbrev along : Float
      along = m ⊕ span h corner_margin r i ⊗ (of_int binary64 (pos j) ⊕ decimal 5 1) ⊘ of_int binary64 (pos k)

      along_side : Within 104194304 along
      along_side =
          let half : Within 1 (decimal 5 1) = round_under false 5 10 1 1 (lit< tt) (lit< tt) (whole_exact 1 (lit≤ tt)) (lit≤ tt) in
          let step = add_within k (omega arith) (of_int binary64 (pos j)) (decimal 5 1) j 1 (omega arith) (whole_within j (omega arith)) half in
          let part = mul_within (span h corner_margin r i) (of_int binary64 (pos j) ⊕ decimal 5 1) 4194304 k (4194304 * k) (omega arith) (omega arith) span_within step in
          add_within 104194304 (lit≤ tt) m (span h corner_margin r i ⊗ (of_int binary64 (pos j) ⊕ decimal 5 1) ⊘ of_int binary64 (pos k)) 100000000 4194304 (lit≤ tt) (margin_within i)
          (div_whole (span h corner_margin r i ⊗ (of_int binary64 (pos j) ⊕ decimal 5 1)) 4194304 k (lit≤ tt) (omega arith) (omega arith) part)

      point_within : PointWithin 419777216 (inner_point h corner_margin r i k j)
      unfolding inner_point
      point_within =
          let two : 1000000 + 1000000 ≤ 2 ^ 53 = lit≤ tt in
          let w = toward_within 1000000 two a b a_within b_within in
          let s = side_long 1000000 two a b a_within b_within (decimal 1 12) tiny_long not_short in
          let x = side_x 1000000 two a b a_within b_within (decimal 1 12) tiny_long not_short in
          let y = side_y 1000000 two a b a_within b_within (decimal 1 12) tiny_long not_short in
          record {
            x = add_within 419777216 (lit≤ tt) a.x (along ⊘ side_at r i ⊗ (b.x ⊖ a.x)) 1000000 418777216 (lit≤ tt) a_within.x
                (along_within along (b.x ⊖ a.x) (side_at r i) 104194304 2000000 418777216 (lit≤ tt) (lit≤ tt) along_side w.x s x);
            y = add_within 419777216 (lit≤ tt) a.y (along ⊘ side_at r i ⊗ (b.y ⊖ a.y)) 1000000 418777216 (lit≤ tt) a_within.y
                (along_within along (b.y ⊖ a.y) (side_at r i) 104194304 2000000 418777216 (lit≤ tt) (lit≤ tt) along_side w.y s y);
          }

    inner_all : (k j : ℕ) → k ≤ front_node_limit → j ≤ k → All 419777216 (inner_points h corner_margin r i k j)
    unfolding inner_points
    inner_all k zero few jk = all_none 419777216
    inner_all k (suc j) few jk =
        let p = inner_point h corner_margin r i k j in
        let w = point_within k j few jk in
        all_append 419777216 (inner_points h corner_margin r i k j) (p.x ∷ p.y ∷ []) (inner_all k j few (omega arith)) (all_two 419777216 p.x p.y w.x w.y)

  -- ---- the nodes of the first k sides
  record Placed (k : ℕ) : Type 0 where
    pub nodes : ℕ
    pub whole : nodes * 2 ≡ length (placed h corner_margin r k)
    pub all : All 419777216 (placed h corner_margin r k)

  placed_all : planned h corner_margin r ≤ front_node_limit → (k : ℕ) → k ≤ r.size → Placed k
  unfolding placed
  placed_all few zero l = record { nodes = 0; whole = refl; all = all_none 419777216 }
  placed_all few (suc k) l =
      let p = placed_all few k (omega arith) in
      let here = ring k (omega arith) in
      let j = parts h corner_margin r k in
      let side = inner_all k (omega arith) j j (omega (arith, room h corner_margin r k p.nodes (omega arith) p.whole)) (omega arith) in
      let more = (r.at k).x ∷ (r.at k).y ∷ inner_points h corner_margin r k j j in
      record {
        nodes = p.nodes + (j + 1);
        whole = rw (add-one k) at (count_step h corner_margin r k p.nodes (j + 1) p.whole refl);
        all = all_append 419777216 (placed h corner_margin r k) more p.all
            (all_more 419777216 (r.at k).x (r.at k).y _ (within_less (r.at k).x (lit≤ tt) here.x) (within_less (r.at k).y (lit≤ tt) here.y) side);
      }

-- ---- one loop
pub loop_all : (h corner_margin : Float) → T (le (decimal 1 3) h) → Within 1000000 h → T (clear h) → Within 100 corner_margin → NotNegative corner_margin
    → (before : ℕ) (ccw : Bool) (given : Ring) (out : List Float) → RingWithin 1000000 given → sample_loop h corner_margin before ccw given ≡ gives out → All 419777216 out
unfolding sample_loop
loop_all h corner_margin hl hw hc cw cn before ccw given out g e =
    let r = loop_ring h ccw given in
    let got = placed h corner_margin r r.size in
    let all = numbered_gives _ got out e in
    let seven = first_none 6 _ _ all.0 in
    let three = ltb-false r.size 3 seven.0 in
    let few = ltb-false front_node_limit (before + planned h corner_margin r) (first_none 9 _ _ seven.1).0 in
    subst (All 419777216) all.1
    (placed_all h corner_margin r hw hc cw cn (ring_within 1000000 h ccw given g) (sides_long h hl hw given g ccw (omega arith)) (omega arith) r.size (omega arith)).all
