-- The coordinates of an accepted job's input are within 1,000,000, and those that sampling makes of it within 419,777,216.
use mathlib.Core.Path.{◌≡◌, refl, subst}
use mathlib.Core.Bool.{Bool, true, false, not, ◌&&◌, ◌||◌}
use mathlib.Core.Logic.{inl}
use mathlib.Core.List.{List, [], ◌∷◌}
use Prim.Native.Nat.{ℕ, ◌+◌, ◌*◌, ◌^◌, ◌≤◌}
use native.Mathlib.Omega.{arith}
use lib.Dec.{T, ltb, lit≤}
use lib.ListN.{length, drop, length-drop}
use lib.Ieee.{Float, lt, le, round}
use borrow.Author.Tests.{ltb-false, not-false}
use Rattle.float.specs.Helpers.{decimal, absolute, is_finite}
use Rattle.float.proofs.Signs.{yes}
use Rattle.float.proofs.Order.{clear}
use Rattle.float.proofs.Within.{Within, NotNegative, right_within, within_right, tested_not_negative, above_clear, tested_within}
use Rattle.geometry.specs.Rings.{Ring}
use Rattle.geometry.specs.Domain.{rings, sum_of}
use Rattle.geometry.proofs.Sizes.{All, all_append, all_none, all_drop, RingWithin, point_at_lem}
use Rattle.state.specs.State.{State, Lengths}
use Rattle.state.specs.Coordinates.{outside, wrong_coordinate}
use Rattle.state.specs.Outcome.{Outcome, refused, gives}
use Rattle.state.proofs.Basics.{or_false}
use Rattle.state.proofs.Outcomes.{gives_same, not_both, first_none}
use Rattle.input.specs.Job.{Job, wrong_options, input_number}
use Rattle.planning.specs.Ring.{loop_ring}
use Rattle.planning.specs.Plan.{planned}
use Rattle.placing.specs.Loop.{sample_loop}
use Rattle.placing.proofs.Sizes.{loop_all}
use Rattle.sampling.specs.Sample.{empty, with_loop, sample_from, sampled}
use Rattle.rules.proofs.Lists.{and_left, and_right}

-- ---- coordinates that pass numbers 5 and 25
right_all : (n : ℕ) → n ≤ 2 ^ 53 → (xs : List Float) → wrong_coordinate (decimal n 0) xs ≡ false → All n xs
unfolding wrong_coordinate All
right_all n few [] e = tt
right_all n few (x ∷ xs) e =
    let rest = or_false (not (is_finite x) || lt (decimal n 0) (absolute x)) (wrong_coordinate (decimal n 0) xs) e in
    let here = or_false (not (is_finite x)) (lt (decimal n 0) (absolute x)) rest.0 in
    (right_within n x few here.0 here.1, right_all n few xs rest.1)

pub all_right : (n : ℕ) → n ≤ 2 ^ 53 → (xs : List Float) → All n xs → wrong_coordinate (decimal n 0) xs ≡ false
unfolding wrong_coordinate All
all_right n few [] h = refl
all_right n few (x ∷ xs) h = let w = within_right n x few h.0 in rw (w.0, w.1) (all_right n few xs h.1)

-- ---- an accepted job's input
pub record Limited (j : Job) : Type 0 where
  pub size : Within 1000000 j.h
  pub size_least : T (le (decimal 1 3) j.h)
  pub size_clear : T (clear j.h)
  pub margin : Within 100 j.options.corner_margin
  pub margin_clear : NotNegative j.options.corner_margin
  pub rounds : j.options.max_row_rounds ≤ 64
  pub coords : All 1000000 j.coords

-- from `low` to `high`
inside : (low high x : Float) → outside low high x ≡ false → T (le low x) × T (le x high)
inside low high x e = let both = not-false (le low x && le x high) e in (yes (and_left (le low x) (le x high) both), yes (and_right (le low x) (le x high) both))

pub limited : (j : Job) (l : Lengths) → input_number j l ≡ 0 → Limited j
unfolding input_number wrong_options round
limited j l e =
    let two = first_none 1 _ _ (first_none 0 _ _ e).1 in
    let three = first_none 2 _ _ two.1 in
    let five = first_none 4 _ _ (first_none 3 _ _ three.1).1 in
    let corners = or_false _ (outside (decimal 2 2) (decimal 9 1) j.options.corner_limit) three.0 in
    let seam = or_false _ j.options.seam corners.0 in
    let rounds = or_false _ (ltb 64 j.options.max_row_rounds) seam.0 in
    let edge = or_false _ (outside (decimal 0 0) (decimal 1 0) j.options.min_edge_fraction) rounds.0 in
    let gap = or_false _ (outside (decimal 0 0) (decimal 100 0) j.options.front_gap) edge.0 in
    let margin = or_false (outside (decimal 1 3) (decimal 1000000 0) j.h) (outside (decimal 0 0) (decimal 100 0) j.options.corner_margin) gap.0 in
    let h = inside (decimal 1 3) (decimal 1000000 0) j.h margin.0 in
    let m = inside (decimal 0 0) (decimal 100 0) j.options.corner_margin margin.1 in
    let c = above_clear j.h (decimal 1 3) tt h.0 in
    let z = tested_not_negative j.options.corner_margin m.0 in
    record {
      size = tested_within 1000000 j.h (lit≤ tt) (inl c) h.1;
      size_least = h.0;
      size_clear = c;
      margin = tested_within 100 j.options.corner_margin (lit≤ tt) z m.1;
      margin_clear = z;
      rounds = ltb-false 64 j.options.max_row_rounds rounds.1;
      coords = right_all 1000000 (lit≤ tt) j.coords five.0;
    }

-- ---- its rings
unfoldable pub EachWithin : ℕ → List Ring → Type 0
EachWithin n [] = T true
EachWithin n (r ∷ rs) = RingWithin n r × EachWithin n rs

pub rings_within : (n : ℕ) (coords : List Float) (loops : List ℕ) → sum_of loops * 2 ≤ length coords → All n coords → EachWithin n (rings coords loops)
unfolding EachWithin rings sum_of
rings_within n coords [] l h = tt
rings_within n coords (k ∷ loops) l h = (
  λ i m. point_at_lem n coords i (omega arith) h,
  rings_within n (drop (k * 2) coords) loops (omega (arith, length-drop (k * 2) coords)) (all_drop n (k * 2) coords h),
)

-- ---- loop after loop
module _ (j : Job) (lim : Limited j) where
  from_all : (before : ℕ) (ccw : Bool) (s : State) (rs : List Ring) (t : State) → sample_from j.h j.options.corner_margin before ccw s rs ≡ gives t → EachWithin 1000000 rs → All 419777216 s.points → All 419777216 t.points
  unfolding sample_from EachWithin
  from_all before ccw s [] t e w a = subst (λ x. All 419777216 x.points) (gives_same e) a
  from_all before ccw s (r ∷ rs) t e w a = go (sample_loop j.h j.options.corner_margin before ccw r) refl (λ out d b. from_all (before + planned j.h j.options.corner_margin (loop_ring j.h ccw r)) false (with_loop s out) rs t d w.1 b)
    where
      go : (x : Outcome (List Float)) → sample_loop j.h j.options.corner_margin before ccw r ≡ x
          → ((out : List Float) → sample_from j.h j.options.corner_margin (before + planned j.h j.options.corner_margin (loop_ring j.h ccw r)) false (with_loop s out) rs ≡ gives t → All 419777216 (with_loop s out).points → All 419777216 t.points)
          → All 419777216 t.points
      go (refused k) d rest = absurd (not_both (rw (d, sample_from) at e))
      go (gives out) d rest =
          rest out (rw (d, sample_from) at e)
          (unfold with_loop in all_append 419777216 s.points out a (loop_all j.h j.options.corner_margin lim.size_least lim.size lim.size_clear lim.margin lim.margin_clear before ccw r out w.0 d))

  pub sampled_all : (s : State) → sum_of j.loops * 2 ≤ length j.coords → sampled j ≡ gives s → All 419777216 s.points
  unfolding sampled
  sampled_all s l e = from_all 0 true empty (rings j.coords j.loops) s e (rings_within 1000000 j.coords j.loops l lim.coords) (all_none 419777216)
