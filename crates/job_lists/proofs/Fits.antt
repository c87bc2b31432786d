-- Every coordinate that sampling and rows make of f64s is an f64.
use mathlib.Core.Path.{◌≡◌, refl, sym, ◌∙◌, ap, subst}
use mathlib.Core.Bool.{Bool, true, false, cond, ◌&&◌, ◌||◌, beq}
use mathlib.Core.List.{List, [], ◌∷◌, ◌++◌}
use Prim.Native.Nat.{ℕ, zero, suc, ◌+◌, ◌-◌, ◌*◌, ◌/◌, ◌<◌}
use native.Mathlib.Omega.{arith}
use lib.Dec.{T, ltb}
use lib.ListN.{length, get_or, drop}
use lib.Ieee.{Float, nan, binary64, fits, add, neg, lt}
use lib.Ieee.Fits.{add-fits, nan-fits}
use Rattle.float.specs.Helpers.{decimal, lesser}
use Rattle.float.specs.Root.{root}
use Rattle.geometry.specs.F64.{◌⊕◌, ◌⊗◌, ◌⊘◌}
use Rattle.geometry.specs.declared.Point.{Point}
use Rattle.geometry.specs.Rings.{Ring, point_at, ring_of, node_ring}
use Rattle.geometry.specs.Measures.{signed_area, side_length, toward, cross, dot, sharp_turn}
use Rattle.geometry.specs.Domain.{rings}
use Rattle.state.specs.State.{State}
use Rattle.state.specs.Outcome.{Outcome, refused, gives, first_true, test}
use Rattle.state.specs.Limits.{front_node_limit}
use Rattle.state.proofs.Outcomes.{gives_same, not_both, numbered_gives}
use Rattle.input.specs.Job.{Job}
use Rattle.planning.specs.Ring.{closeness, close, kept, unclosed, reversed, turned, loop_ring}
use Rattle.planning.specs.Plan.{parts, planned}
use Rattle.placing.specs.Placed.{inner_point, inner_points, placed}
use Rattle.placing.specs.Loop.{sample_loop}
use Rattle.sampling.specs.Sample.{empty, with_loop, sample_from, sampled}
use Rattle.rules.specs.declared.Projection.{Projection}
use Rattle.rules.specs.declared.Projection.TheVariants.{At, Nothing}
use Rattle.rules.specs.Projecting.{project, projection_values}
use Rattle.rules.specs.Checks.{projection, new_points}
use Rattle.rules.specs.Row.{front, new_of, committed, next_row}
use Rattle.rules.specs.Passes.{some_passes, begun}
use Rattle.rules.proofs.RowStands.{granted}
use Rattle.tile_text.specs.Readable.{F64s}
use Rattle.job_lists.proofs.Steps.{passes}

abbrev pub AllFit : List Float → Type 0
AllFit [] = Unit
AllFit (x ∷ xs) = T (fits binary64 x) × AllFit xs

fit_append : (xs ys : List Float) → AllFit xs → AllFit ys → AllFit (xs ++ ys)
fit_append [] ys h g = g
fit_append (x ∷ xs) ys h g = (h.0, fit_append xs ys h.1 g)

-- at any place, since a NaN fits too
fit_at : (xs : List Float) (i : ℕ) → AllFit xs → T (fits binary64 (get_or xs i nan))
fit_at [] i h = nan-fits binary64
fit_at (x ∷ xs) zero h = h.0
fit_at (x ∷ xs) (suc i) h = fit_at xs i h.1

fit_drop : (n : ℕ) (xs : List Float) → AllFit xs → AllFit (drop n xs)
fit_drop zero xs h = h
fit_drop (suc n) [] h = h
fit_drop (suc n) (x ∷ xs) h = fit_drop n xs h.1

pub fit_places : (xs : List Float) → AllFit xs → F64s xs
fit_places [] h i l = absurd (omega arith)
fit_places (x ∷ xs) h zero l = h.0
fit_places (x ∷ xs) h (suc i) l = fit_places xs h.1 i (omega arith)

pub places_fit : (xs : List Float) → F64s xs → AllFit xs
places_fit [] h = tt
places_fit (x ∷ xs) h = (h 0 (omega arith), places_fit xs (λ i l. h (suc i) (omega arith)))

-- ---- rings

abbrev RingFit : Ring → Type 0
RingFit r = (i : ℕ) → T (fits binary64 (r.at i).x) × T (fits binary64 (r.at i).y)

ring_of_lem : (xs : List Float) (n : ℕ) → AllFit xs → RingFit (ring_of xs n)
ring_of_lem xs n h i = (fit_at xs (i * 2) h, fit_at xs (i * 2 + 1) h)

kept_fit : (limit : Float) (r : Ring) → RingFit r → (k : ℕ) → AllFit (kept limit r k)
unfolding kept
kept_fit limit r f zero = tt
kept_fit limit r f (suc k) = by (ltb 0 (length (kept limit r k)) && close limit (point_at (kept limit r k) (length (kept limit r k) / 2 - 1)) (r.at k)) (kept_fit limit r f k)
  where
    by : (s : Bool) → AllFit (kept limit r k) → AllFit (cond s (kept limit r k) (kept limit r k ++ ((r.at k).x ∷ (r.at k).y ∷ [])))
    by true h = h
    by false h = fit_append (kept limit r k) _ h ((f k).0, ((f k).1, tt))

turned_fit : (ccw : Bool) (r : Ring) → RingFit r → RingFit (turned ccw r)
unfolding turned
turned_fit ccw r f = by (beq (lt (decimal 0 0) (signed_area r)) ccw)
  where
    by : (s : Bool) → RingFit (cond s r (reversed r))
    by true i = f i
    by false i = f (r.size - 1 - i)

loop_fit : (h : Float) (ccw : Bool) (r : Ring) → RingFit r → RingFit (loop_ring h ccw r)
unfolding loop_ring
loop_fit h ccw r f =
    let q = kept (closeness h) r r.size in
    let n = unclosed (closeness h) q (length q / 2) in
    turned_fit ccw (ring_of q n) (ring_of_lem q n (kept_fit (closeness h) r f r.size))

-- ---- a loop's nodes: its points, and between them sums

module _ (h margin : Float) (r : Ring) (f : RingFit r) where
  inner_fit : (i k j : ℕ) → AllFit (inner_points h margin r i k j)
  unfolding inner_points inner_point
  inner_fit i k zero = tt
  inner_fit i k (suc j) = fit_append (inner_points h margin r i k j) _ (inner_fit i k j) (add-fits binary64 _ _, (add-fits binary64 _ _, tt))

  placed_fit : (k : ℕ) → AllFit (placed h margin r k)
  unfolding placed
  placed_fit zero = tt
  placed_fit (suc k) = fit_append (placed h margin r k) _ (placed_fit k) ((f k).0, ((f k).1, inner_fit k (parts h margin r k) (parts h margin r k)))

loop_gives : (h margin : Float) (before : ℕ) (ccw : Bool) (r : Ring) (out : List Float) → RingFit r → sample_loop h margin before ccw r ≡ gives out → AllFit out
unfolding sample_loop
loop_gives h margin before ccw r out f e =
    let q = loop_ring h ccw r in
    let number = first_true (test 7 (ltb q.size 3) ∷ test 10 (ltb front_node_limit (before + planned h margin q)) ∷ []) in
    subst AllFit (numbered_gives number (placed h margin q q.size) out e).1 (placed_fit h margin q (loop_fit h ccw r f) q.size)

-- ---- loop after loop

abbrev EachFit : List Ring → Type 0
EachFit [] = Unit
EachFit (r ∷ rs) = RingFit r × EachFit rs

rings_fit : (coords : List Float) (loops : List ℕ) → AllFit coords → EachFit (rings coords loops)
unfolding rings
rings_fit coords [] h = tt
rings_fit coords (n ∷ loops) h = (ring_of_lem coords n h, rings_fit (drop (n * 2) coords) loops (fit_drop (n * 2) coords h))

from_fit : (h margin : Float) (before : ℕ) (ccw : Bool) (s : State) (rs : List Ring) (t : State) → sample_from h margin before ccw s rs ≡ gives t → EachFit rs → AllFit s.points → AllFit t.points
unfolding sample_from with_loop
from_fit h margin before ccw s [] t e w a = subst (λ (u : State). AllFit u.points) (gives_same e) a
from_fit h margin before ccw s (r ∷ rs) t e w a = go (sample_loop h margin before ccw r) refl (λ out d b. from_fit h margin (before + planned h margin (loop_ring h ccw r)) false (with_loop s out) rs t d w.1 b)
  where
    go : (x : Outcome (List Float)) → sample_loop h margin before ccw r ≡ x
        → ((out : List Float) → sample_from h margin (before + planned h margin (loop_ring h ccw r)) false (with_loop s out) rs ≡ gives t → AllFit (with_loop s out).points → AllFit t.points)
        → AllFit t.points
    go (refused k) d rest = absurd (not_both (rw (d, sample_from) at e))
    go (gives out) d rest = rest out (rw (d, sample_from) at e) (unfold with_loop in fit_append s.points out a (loop_gives h margin before ccw r out w.0 d))

sampled_fit : (j : Job) (s : State) → AllFit j.coords → sampled j ≡ gives s → AllFit s.points
unfolding sampled
sampled_fit j s h e = from_fit j.h j.options.corner_margin 0 true empty (rings j.coords j.loops) s e (rings_fit j.coords j.loops h) tt

-- ---- rows: a projected node is a sum

either : (s : Bool) (x y z w : Float) → AllFit (projection_values (cond s Nothing (At (add binary64 x y) (add binary64 z w))))
either true x y z w = tt
either false x y z w = (add-fits binary64 x y, (add-fits binary64 z w, tt))

project_fit : (before here after : Point) (h : Float) → AllFit (projection_values (project before here after h))
unfolding project
project_fit before here after h =
    either (lt l1 (decimal 1 12) || lt l2 (decimal 1 12) || lt bis_length (decimal 1 9) || lt s (decimal 2 1)) here.x (bis.x ⊘ bis_length ⊗ distance) here.y (bis.y ⊘ bis_length ⊗ distance)
  where
    l1 : Float
    l1 = side_length before here

    l2 : Float
    l2 = side_length here after

    d1 : Point
    d1 = record { x = (toward before here).x ⊘ l1; y = (toward before here).y ⊘ l1 }

    d2 : Point
    d2 = record { x = (toward here after).x ⊘ l2; y = (toward here after).y ⊘ l2 }

    bis : Point
    bis = record { x = neg d1.y ⊕ neg d2.y; y = d1.x ⊕ d2.x }

    bis_length : Float
    bis_length = root (bis.x ⊗ bis.x ⊕ bis.y ⊗ bis.y)

    s : Float
    s = bis_length ⊘ decimal 2 0

    distance : Float
    distance =
        lesser (h ⊘ s ⊕ cond (lt (decimal 0 0) (cross d1 d2) && sharp_turn (cross d1 d2) (dot d1 d2)) (decimal 25 2 ⊗ h) (decimal 0 0)) (decimal 3 0 ⊗ h)

new_fit : (r : Ring) (h : Float) (k : ℕ) → AllFit (new_points r h k)
unfolding new_points
new_fit r h zero = tt
new_fit r h (suc k) = fit_append (new_points r h k) _ (new_fit r h k) (project_fit _ _ _ h)

row_fit : (j : Job) (s : State) (li : ℕ) (t : State) → next_row j s li ≡ gives t → AllFit s.points → AllFit t.points
unfolding committed
row_fit j s li t e a = subst (λ (u : State). AllFit u.points) (granted j s li t e).leaves (fit_append s.points (new_of j s.points s.fronts li) a (new_fit (node_ring s.points (front s li)) j.h (length (front s li))))

pub rows_fit : (j : Job) (n : ℕ) (s t : State) → AllFit j.coords → sampled j ≡ gives s → some_passes j n s ≡ gives t → AllFit t.points
rows_fit j n s t h d e = passes j (λ u. AllFit u.points) (λ u li v. row_fit j u li v) (λ u a. a) n s t e (sampled_fit j s h d)
