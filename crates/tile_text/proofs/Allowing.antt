-- What number 25 leaves of a state, and that the numbers of a list that is allowed fit where they are stored.
use mathlib.Core.Path.{◌≡◌, refl, sym, ◌∙◌, ap}
use mathlib.Core.Bool.{Bool, true, false, not, ◌&&◌, ◌||◌, true≢false}
use mathlib.Core.List.{List, [], ◌∷◌, ◌++◌, map}
use Prim.Native.Nat.{ℕ, zero, suc, ◌+◌, ◌-◌, ◌*◌, ◌≤◌, ◌<◌}
use native.Mathlib.Omega.{arith}
use borrow.Author.Tests.{ltb-false, eqb-true, leb-true, lt-leb}
use lib.Dec.{eqb}
use lib.ListN.{length, get_or, take, replicate, length-map, length-append}
use lib.Seq.{take_at}
use lib.Ieee.{Float, lt}
use Rattle.float.specs.Helpers.{decimal, absolute, is_finite}
use Rattle.geometry.specs.Domain.{sum_of}
use Rattle.state.specs.Limits.{point_limit, quad_limit, front_limit, front_node_limit}
use Rattle.state.specs.State.{State, quad_nodes, joined, nodes, written, reading}
use Rattle.state.specs.Given.{some, some_from, wrong_counts, wrong_values, wrong_state}
use Rattle.state.specs.Coordinates.{wrong_coordinate}
use Rattle.state.proofs.Basics.{or_false}
use Rattle.state.proofs.Written.{reading-written}
use Rattle.state.proofs.Fitting.{total_lengths}
use Rattle.state.proofs.Repeating.{all_below, from_both}
use Rattle.tile_text.specs.TileList.{TileList, with_fronts, allowed, every_quad, four_different, pass_limit}
use Rattle.tile_text.specs.Plain.{U16s, Plain}
use Rattle.tile_text.specs.Readable.{F64s}

-- ---- both parts of a test

pub both_true : (a b : Bool) → (a && b) ≡ true → (a ≡ true) × (b ≡ true)
both_true true b e = (refl, e)
both_true false b e = absurd (true≢false (sym e))

pub not_true : (a : Bool) → not a ≡ true → a ≡ false
not_true true e = absurd (true≢false (sym e))
not_true false e = refl

pub not_not : (a : Bool) → not a ≡ false → a ≡ true
not_not true e = refl
not_not false e = absurd (true≢false e)

-- ---- a state that number 25 does not refuse

pub record Fair (s : State) : Type 0 where
  pub points : nodes s ≤ point_limit
  pub quads : length s.quads ≤ quad_limit
  pub fronts : length s.fronts ≤ front_limit
  pub front_nodes : length (joined s.fronts) ≤ front_node_limit
  pub quads_below : some_from (nodes s) (joined (map quad_nodes s.quads)) ≡ false
  pub fronts_below : some_from (nodes s) (joined s.fronts) ≡ false
  pub coordinates : wrong_coordinate (decimal 1000000000 0) s.points ≡ false
  pub sums : s.row_quads + s.core_quads ≡ length s.quads
  pub laid : s.laid ≤ length s.quads
  pub rounds : 6 * s.row_rounds ≤ s.row_quads

module _ (s : State) where
  sizes_written : sum_of (take (length s.fronts) (map length s.fronts ++ replicate (front_limit - length (map length s.fronts)) 0)) ≡ length (joined s.fronts)
  sizes_written =
      ap sum_of (take_at (map length s.fronts) (replicate (front_limit - length (map length s.fronts)) 0) (length s.fronts) (length-map s.fronts length)) ∙ total_lengths s.fronts

  counts_fair : wrong_counts (written s) ≡ false → (nodes s ≤ point_limit) × (length s.quads ≤ quad_limit) × (length s.fronts ≤ front_limit) × (length (joined s.fronts) ≤ front_node_limit)
  unfolding wrong_counts written
  counts_fair w =
      let small = or_false _ _ w in
      let f = or_false _ _ small.0 in
      let n = or_false _ _ f.0 in
      let q = or_false _ _ n.0 in
      let total : sum_of (take (length s.fronts) (map length s.fronts ++ replicate (front_limit - length (map length s.fronts)) 0)) ≤ front_node_limit = ltb-false _ _ f.1 in
      (ltb-false _ _ q.0, ltb-false _ _ q.1, ltb-false _ _ n.1, rw sizes_written at total)

  pub fair : length s.points ≡ nodes s * 2 → wrong_state (written s) ≡ false → Fair s
  unfolding wrong_state wrong_values
  fair even w =
      let parts = or_false (wrong_counts (written s)) (wrong_values (reading (written s))) w in
      let c = counts_fair parts.0 in
      let v = rw (reading-written s (omega arith)) at parts.1 in
      let r = or_false _ _ v in
      let l = or_false _ _ r.0 in
      let n = or_false _ _ l.0 in
      let x = or_false _ _ n.0 in
      let m = or_false _ _ x.0 in
      let both = or_false _ _ (sym (from_both (nodes s) (joined (map quad_nodes s.quads)) (joined s.fronts)) ∙ m.0) in
      record {
        points = c.0;
        quads = c.1;
        fronts = c.2;
        front_nodes = c.3;
        quads_below = both.0;
        fronts_below = both.1;
        coordinates = x.1;
        sums = eqb-true _ _ (not_not _ n.1);
        laid = ltb-false _ _ l.1;
        rounds = ltb-false _ _ r.1;
      }

-- ---- a list that is allowed

u16_below : (n : ℕ) (xs : List ℕ) → n ≤ point_limit → some_from n xs ≡ false → U16s xs
u16_below n xs h w i l = let b = all_below n xs w i l in omega arith

module _ (a b c d e f g h : ℕ) (i : a < 65536) (j : b < 65536) (k : c < 65536) (l : d < 65536) (m : e < 65536) (n : f < 65536) (o : g < 65536) (p : h < 65536) where
  none_from : some_from 65536 (a ∷ b ∷ c ∷ d ∷ e ∷ f ∷ g ∷ h ∷ []) ≡ false
  unfolding some
  none_from = rw (lt-leb 65536 a i, lt-leb 65536 b j, lt-leb 65536 c k, lt-leb 65536 d l, lt-leb 65536 e m, lt-leb 65536 f n, lt-leb 65536 g o, lt-leb 65536 h p)

  eight : U16s (a ∷ b ∷ c ∷ d ∷ e ∷ f ∷ g ∷ h ∷ [])
  eight = all_below 65536 (a ∷ b ∷ c ∷ d ∷ e ∷ f ∷ g ∷ h ∷ []) none_from

-- no line is longer than all together
pub lengths_below : (xss : List (List ℕ)) (i : ℕ) → i < length (map length xss) → get_or (map length xss) i 0 ≤ length (joined xss)
unfolding joined
lengths_below [] i l = absurd (omega arith)
lengths_below (xs ∷ xss) zero l = rw (length-append xs (joined xss)) (omega arith)
lengths_below (xs ∷ xss) (suc i) l = let r = lengths_below xss i (omega arith) in rw (length-append xs (joined xss)) (omega arith)

coordinate_finite : (limit : Float) (xs : List Float) → wrong_coordinate limit xs ≡ false → (i : ℕ) → i < length xs → is_finite (get_or xs i (decimal 0 0)) ≡ true
unfolding wrong_coordinate
coordinate_finite limit [] w i l = absurd (omega arith)
coordinate_finite limit (x ∷ xs) w zero l =
    let p = or_false _ _ w in
    let q = or_false _ _ p.0 in
    not_not (is_finite x) q.0
coordinate_finite limit (x ∷ xs) w (suc i) l = coordinate_finite limit xs (or_false (not (is_finite x) || lt limit (absolute x)) (wrong_coordinate limit xs) w).1 i (omega arith)

-- what the desk's list has, test by test
pub record Allowed (l : TileList) : Type 0 where
  pub state : Fair l.state
  pub loops : Fair (with_fronts l.loops l.state)
  pub some : eqb (length l.loops) 0 ≡ false
  pub passes : l.state.passes ≤ pass_limit
  pub different : every_quad four_different l.state.quads ≡ true
  pub even : length l.state.points ≡ nodes l.state * 2

pub allowed_is : (l : TileList) → allowed l ≡ true → Allowed l
unfolding allowed
allowed_is l a =
    let e = both_true _ _ a in
    let d = both_true _ _ e.0 in
    let p = both_true _ _ d.0 in
    let n = both_true _ _ p.0 in
    let w = both_true _ _ n.0 in
    let even = eqb-true _ _ e.1 in
    record {
      state = fair l.state even (not_true _ w.0);
      loops = fair (with_fronts l.loops l.state) even (not_true _ w.1);
      some = not_true _ n.1;
      passes = leb-true _ _ p.1;
      different = d.1;
      even = even;
    }

pub plain : (l : TileList) → F64s l.state.points → Allowed l → Plain l
plain l f a =
    let s = l.state in
    let r = a.state in
    let o = a.loops in
    let points = r.points in
    let quads = r.quads in
    let fronts = r.fronts in
    let sums = r.sums in
    let laid = r.laid in
    let rounds = r.rounds in
    let passes = a.passes in
    let even = a.even in
    record {
      loop_nodes = u16_below (nodes s) (joined l.loops) points o.fronts_below;
      loop_lengths = λ i h. let b = lengths_below l.loops i h in let t = o.front_nodes in omega arith;
      quad_nodes = u16_below (nodes s) (joined (map quad_nodes s.quads)) points r.quads_below;
      front_nodes = u16_below (nodes s) (joined s.fronts) points r.fronts_below;
      front_lengths = λ i h. let b = lengths_below s.fronts i h in let t = r.front_nodes in omega arith;
      counts =
          eight (nodes s) (length s.quads) (length s.fronts) s.row_quads s.core_quads s.row_rounds s.passes s.laid (omega arith) (omega arith) (omega arith) (omega arith) (omega arith)
          (omega arith) (omega arith) (omega arith);
      coordinates = λ i h. (f i h, coordinate_finite (decimal 1000000000 0) s.points r.coordinates i h);
      pairs = omega arith;
    }
