-- Number 25: the definition's tests on the state that was read are the code's on the buffers; and what buffers have that it does not refuse.
use mathlib.Core.Path.{◌≡◌, refl, sym, ap}
use mathlib.Core.Bool.{Bool, true, false, not, ◌||◌}
use mathlib.Core.List.{List}
use Prim.Native.Nat.{ℕ, ◌+◌, ◌-◌, ◌*◌, ◌/◌, ◌<◌, ◌≤◌}
use native.Mathlib.Omega.{arith}
use borrow.Author.Tests.{lt-ltb, le-ltb, eq-eqb, ne_eqb, ltb-true, ltb-false, eqb-true, not-false}
use lib.Dec.{eqb, ltb}
use lib.Ieee.{Float}
use lib.ListN.{length, get_or, take}
use lib.Seq.{length-take-le, get_or-take}
use Rattle.float.specs.Helpers.{decimal}
use Rattle.geometry.specs.Domain.{sum_of}
use Rattle.state.specs.Limits.{front_limit, front_node_limit, points_length, quads_length}
use Rattle.state.specs.declared.Counts.{Counts}
use Rattle.state.specs.State.{Held, Lengths, lengths, reading}
use Rattle.state.specs.Call.{held, lent}
use Rattle.state.specs.Coordinates.{wrong_coordinate}
use Rattle.state.proofs.Basics.{or_false}
use Rattle.state.specs.Given.{some_from, repeated, wrong_counts, wrong_values, wrong_state}
use Rattle.state.specs.Sound.{Sound, sizes_of}
use Rattle.state.proofs.Repeating.{all_below, from_both}
use Rattle.state.proofs.Reading.{Counted, nodes-read, quads_read, quad-nodes-read, front-nodes-read}

-- six times b exceeds a: compared without a product
sixth : (a b : ℕ) → ltb (a / 6) b ≡ ltb a (6 * b)
sixth a b = go (ltb (a / 6) b) refl
  where
    go : (t : Bool) → ltb (a / 6) b ≡ t → t ≡ ltb a (6 * b)
    go true e = let h = ltb-true (a / 6) b e in sym (lt-ltb a (6 * b) (omega arith))
    go false e = let h = ltb-false (a / 6) b e in sym (le-ltb a (6 * b) (omega arith))

-- the counts that do not fit together, by the code's tests: of q quads r are the rows' and k the core's, l were laid, in s rows
module _ (q r k l s : ℕ) where
  abbrev sums : Bool
  sums = not (eqb (r + k) q) || ltb q l || ltb r (6 * s)

  pub too_many : q < r → true ≡ sums
  too_many h = rw (ne_eqb (r + k) q (λ e. omega arith))

  pub unequal : r ≤ q → (k ≡ q - r → ⊥) → true ≡ sums
  unequal h f = rw (ne_eqb (r + k) q (λ e. f (omega arith)))

  module _ (h : r ≤ q) (e : k ≡ q - r) where
    equal : eqb (r + k) q ≡ true
    equal = eq-eqb (r + k) q (omega arith)

    pub laid_over : q < l → true ≡ sums
    laid_over g = rw (equal, lt-ltb q l g)

    pub rounds_decide : l ≤ q → ltb (r / 6) s ≡ sums
    rounds_decide g = rw (equal, le-ltb q l g) (sixth r s)

or_group : (a b c d e f : Bool) → (a || b || c || d || e || f) ≡ (a || b || c || (d || e || f))
or_group true b c d e f = refl
or_group false true c d e f = refl
or_group false false true d e f = refl
or_group false false false d e f = refl

-- buffers that are as long as document 01 has them
pub lent-lengths : (p : List Float) (q n l : List ℕ) (c : Counts) → length p ≡ points_length → length q ≡ quads_length → length n ≡ front_node_limit → length l ≡ front_limit → lengths (held p q n l c) ≡ lent
lent-lengths p q n l c e f g h = rw (e, f, g, h)

pub counted : (b : Held) → lengths b ≡ lent → wrong_counts b ≡ false → Counted b
unfolding wrong_counts
counted b l w =
    let small = or_false _ _ w in
    let f = or_false _ _ small.0 in
    let n = or_false _ _ f.0 in
    let q = or_false _ _ n.0 in
    record {
      points_long = ap (λ (k : Lengths). k.points) l;
      quads_long = ap (λ (k : Lengths). k.quads) l;
      front_nodes_long = ap (λ (k : Lengths). k.front_nodes) l;
      front_lengths_long = ap (λ (k : Lengths). k.front_lengths) l;
      points = ltb-false _ _ q.0;
      quads = ltb-false _ _ q.1;
      fronts = ltb-false _ _ n.1;
      front_nodes = ltb-false _ _ f.1;
    }

module _ (b : Held) (c : Counted b) where
  others_read : ((reading b).points ≡ take (b.counts.points * 2) b.points) × ((reading b).row_quads ≡ b.counts.row_quads)
      × ((reading b).core_quads ≡ b.counts.core_quads) × ((reading b).laid ≡ b.counts.laid) × ((reading b).row_rounds ≡ b.counts.row_rounds)
  unfolding reading
  others_read = (refl, refl, refl, refl, refl)

  abbrev part-nodes : List ℕ
  part-nodes = take (sum_of (sizes_of b)) b.front_nodes

  -- a node number of the quads or of the fronts is not below the points, or a front node is repeated
  abbrev wrong_part : Bool
  wrong_part = some_from b.counts.points (take (b.counts.quads * 4) b.quads) || some_from b.counts.points part-nodes || repeated part-nodes

  pub values_agree : wrong_values (reading b)
      ≡ (wrong_part || wrong_coordinate (decimal 1000000000 0) (take (b.counts.points * 2) b.points)
      || (not (eqb (b.counts.row_quads + b.counts.core_quads) b.counts.quads) || ltb b.counts.quads b.counts.laid || ltb b.counts.row_quads (6 * b.counts.row_rounds)))
  unfolding wrong_values
  values_agree =
      rw (nodes-read b c, quad-nodes-read b c, front-nodes-read b c, quads_read b c, others_read.0, others_read.1, others_read.2, others_read.3, others_read.4, from_both b.counts.points (take (b.counts.quads * 4) b.quads) part-nodes)
      (or_group (some_from b.counts.points (take (b.counts.quads * 4) b.quads) || some_from b.counts.points part-nodes) (repeated part-nodes)
      (wrong_coordinate (decimal 1000000000 0) (take (b.counts.points * 2) b.points)) (not (eqb (b.counts.row_quads + b.counts.core_quads) b.counts.quads))
      (ltb b.counts.quads b.counts.laid) (ltb b.counts.row_quads (6 * b.counts.row_rounds)))

  -- ---- left at the first test that is true

  pub by_nodes : (t : Bool) → t ≡ wrong_part → t ≡ true → wrong_counts b ≡ false → true ≡ wrong_state b
  unfolding wrong_state
  by_nodes t e h w = rw (w, values_agree, ← e, h)

  module _ (t : Bool) (e : t ≡ wrong_part) (h : t ≡ false) (w : wrong_counts b ≡ false) where
    pub by_coordinate : (u : Bool) → u ≡ wrong_coordinate (decimal 1000000000 0) (take (b.counts.points * 2) b.points) → u ≡ true → true ≡ wrong_state b
    unfolding wrong_state
    by_coordinate u f g = rw (w, values_agree, ← e, h, ← f, g)

    pub by_sums : (u v : Bool) → u ≡ wrong_coordinate (decimal 1000000000 0) (take (b.counts.points * 2) b.points) → u ≡ false
        → v ≡ sums b.counts.quads b.counts.row_quads b.counts.core_quads b.counts.laid b.counts.row_rounds → v ≡ wrong_state b
    unfolding wrong_state
    by_sums u v f g k = rw (w, values_agree, ← e, h, ← f, g) k

pub by_counts : (b : Held) (t : Bool) → t ≡ wrong_counts b → t ≡ true → true ≡ wrong_state b
unfolding wrong_state
by_counts b t e h = rw (← e, h)

-- ---- what is known of buffers that number 25 does not refuse

below_of : (n total : ℕ) (xs : List ℕ) → total ≤ length xs → some_from n (take total xs) ≡ false → (i : ℕ) → i < total → get_or xs i 0 < n
below_of n total xs h w i l = rw (get_or-take total xs i 0 l) at (all_below n (take total xs) w i (rw (length-take-le total xs h) l))

pub sound : (b : Held) → lengths b ≡ lent → wrong_state b ≡ false → Sound b
unfolding wrong_state
sound b l w =
    let w1 = or_false (wrong_counts b) (wrong_values (reading b)) w in
    let c = counted b l w1.0 in
    let v = rw (values_agree b c) at w1.1 in
    let total = sum_of (sizes_of b) in
    let P : Bool = some_from b.counts.points (take (b.counts.quads * 4) b.quads) in
    let A : Bool = some_from b.counts.points (take total b.front_nodes) in
    let B : Bool = repeated (take total b.front_nodes) in
    let C : Bool = wrong_coordinate (decimal 1000000000 0) (take (b.counts.points * 2) b.points) in
    let D : Bool = not (eqb (b.counts.row_quads + b.counts.core_quads) b.counts.quads) in
    let E : Bool = ltb b.counts.quads b.counts.laid in
    let F : Bool = ltb b.counts.row_quads (6 * b.counts.row_rounds) in
    let v1 = or_false (P || A || B || C) (D || E || F) v in
    let n = (or_false P A (or_false (P || A) B (or_false (P || A || B) C v1.0).0).0).1 in
    let f = or_false (D || E) F v1.1 in
    let d = eqb-true (b.counts.row_quads + b.counts.core_quads) b.counts.quads (not-false _ (or_false D E f.0).0) in
    let long = c.front_nodes_long in
    let g = c.front_nodes in
    record {
      points_long = c.points_long;
      quads_long = c.quads_long;
      front_nodes_long = long;
      front_lengths_long = c.front_lengths_long;
      points = c.points;
      quads = c.quads;
      fronts = c.fronts;
      front_nodes = g;
      below = below_of b.counts.points total b.front_nodes (omega arith) n;
      row_quads = omega arith;
      row_rounds = ltb-false _ _ f.1;
    }
