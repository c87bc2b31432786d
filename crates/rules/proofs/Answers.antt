-- What closings, fans, rows and accepted jobs and samples come to.
use mathlib.Core.Path.{◌≡◌, refl, ap, sym, ◌∙◌, subst}
use mathlib.Core.Bool.{Bool, true, false, cond, false≢true}
use mathlib.Core.List.{List, [], ◌∷◌, ◌++◌, map, append-nil}
use Prim.Native.Nat.{ℕ, suc, ◌+◌, ◌*◌, ◌/◌, ◌%◌, ◌≤◌}
use native.Mathlib.Omega.{arith}
use lib.Dec.{eqb, ltb, leb}
use lib.Ieee.{Float}
use lib.ListN.{length, get_or, length-append}
use borrow.Author.Tests.{eqb-true, eqb-false, ne_eqb, ltb-false, not-false}
use Rattle.geometry.specs.Rings.{node_ring}
use Rattle.geometry.specs.Domain.{rings}
use Rattle.state.specs.Limits.{point_limit, quad_limit}
use Rattle.state.specs.State.{State, Quad, Lengths, nodes, joined, written}
use Rattle.state.specs.Outcome.{Outcome, refused, gives}
use Rattle.state.specs.Given.{some, member}
use Rattle.state.specs.Call.{Left, number_of, job_left}
use Rattle.state.proofs.Basics.{or_false}
use Rattle.state.proofs.Outcomes.{gives_same, not_both, first_none, numbered_gives}
use Rattle.input.specs.Job.{Job, input_number}
use Rattle.input.proofs.Shape.{accepted}
use Rattle.sampling.specs.Sample.{sampled, on_job, sample_call}
use Rattle.rules.specs.Checks.{quad_passes}
use Rattle.rules.specs.Row.{next_row}
use Rattle.rules.specs.RowCall.{row_at}
use Rattle.rules.specs.Passes.{some_passes}
use Rattle.rules.specs.Closing.{closure, closed, closings}
use Rattle.rules.specs.Fan.{centre, fan_quads, fanned, fan}
use Rattle.rules.specs.Calls.{and_then, paved, job_call}
use Rattle.rules.specs.Demands.{sampled_loops}
use Rattle.rules.proofs.Every.{every_at}
use Rattle.rules.proofs.Numbers.{RefusedIn, loop_numbers, sampled_in}
use Rattle.rules.proofs.Refusals.{job_refusals, paved_in}
use Rattle.rules.proofs.Invariant.{Good, no_quad}
use Rattle.rules.proofs.Allowed.{Stands, kept_fewer}
use Rattle.rules.proofs.Laying.{Lays, lays_none}
use Rattle.rules.proofs.SampleGood.{sampled_stands}
use Rattle.rules.proofs.PassGood.{row_advances, passes_advance}
use Rattle.rules.proofs.ClosingGood.{closures_pass, closing_good}
use Rattle.rules.proofs.FanGood.{fan-length, fan_good}

-- ---- closings

pub closings_give : (limit : Float) (s t : State) → closings limit s ≡ gives t → (t ≡ closed limit s) × (length (closed limit s).quads ≤ quad_limit)
unfolding closings
closings_give limit s t e = go (ltb quad_limit (length (closed limit s).quads)) refl e
  where
    go : (b : Bool) → ltb quad_limit (length (closed limit s).quads) ≡ b → cond b (refused 21) (gives (closed limit s)) ≡ gives t → (t ≡ closed limit s) × (length (closed limit s).quads ≤ quad_limit)
    go true d f = absurd (not_both f)
    go false d f = (sym (gives_same f), ltb-false quad_limit (length (closed limit s).quads) d)

closed_stands : (limit : Float) (loops : List (List ℕ)) (s : State) → length (closed limit s).quads ≤ quad_limit → Stands loops s → Stands loops (closed limit s)
unfolding closed
closed_stands limit loops s few g =
    let a = g.allowed in
    let kept = kept_fewer limit s.points s.fronts in
    let more = length-append s.quads (joined (map (closure limit s.points) s.fronts)) in
    record {
      good = closing_good limit loops s.points s.quads [] s.fronts g.good;
      allowed = record {
        points = a.points;
        quads = few;
        fronts = omega (arith, a.fronts, kept.fronts);
        front_nodes = omega (arith, a.front_nodes, kept.nodes);
        three = kept.three a.three;
        sums = omega (arith, a.sums);
        laid = omega (arith, a.laid);
        rounds = omega (arith, a.rounds);
      };
    }

closed_lays : (limit : Float) (s : State) → length (closed limit s).quads ≤ quad_limit → Lays limit s (closed limit s)
unfolding closed
closed_lays limit s few = record {
  keeps = λ loops g. closed_stands limit loops s few g;
  more_points = [];
  points_are = sym (append-nil s.points);
  more_quads = joined (map (closure limit s.points) s.fronts);
  quads_are = refl;
  passed = λ loops g. closures_pass limit s.points s.fronts;
}

pub closings_lay : (limit : Float) (s t : State) → closings limit s ≡ gives t → Lays limit s t
closings_lay limit s t e = let c = closings_give limit s t e in rw c.0 (closed_lays limit s c.1)

-- ---- a fan

module _ (limit : Float) (j : Job) (s : State) (f : List ℕ) where
  abbrev n : ℕ
  n = length f

  abbrev more : List Float
  more = let c = centre (rings j.coords j.loops) (node_ring s.points f) in c.point.x ∷ c.point.y ∷ []

  abbrev added : List Quad
  added = fan_quads (s.points ++ more) f (nodes s) (n / 2)

  fanned_lays : (t : State) → s.fronts ≡ f ∷ [] → fanned limit j s f ≡ gives t → Lays limit s t
  unfolding fanned
  fanned_lays t only e =
      let all = numbered_gives _ _ t e in
      let t24 = first_none 23 _ _ all.0 in
      let t26 = first_none 25 _ _ t24.1 in
      let t21 = first_none 20 _ _ t26.1 in
      let t27 = first_none 26 _ _ t21.1 in
      let twos : n ≡ 2 * (n / 2) = omega (arith, eqb-false (n % 2) 1 (or_false (ltb n 4) (eqb (n % 2) 1) t24.0).1) in
      let room = or_false (ltb point_limit (nodes s + 1)) (ltb quad_limit (length s.quads + n / 2)) t21.0 in
      let many = fan-length (s.points ++ more) f (nodes s) (n / 2) in
      let quads-after : length (s.quads ++ added) ≡ length s.quads + n / 2 = length-append s.quads added ∙ ap (λ k. length s.quads + k) many in
      subst (λ x. Lays limit s x) all.1
      (record {
        keeps = λ loops g. record {
          good = fan_good loops s.points s.quads f (subst (λ x. Good loops s.points s.quads x) only g.good) more (n / 2) twos refl;
          allowed = record {
            points = omega (arith, length-append s.points more, ltb-false point_limit (nodes s + 1) room.0);
            quads = omega (arith, quads-after, ltb-false quad_limit (length s.quads + n / 2) room.1);
            fronts = omega arith;
            front_nodes = unfold joined in omega arith;
            three = unfold some in refl;
            sums = omega (arith, quads-after, g.allowed.sums);
            laid = omega (arith, quads-after, g.allowed.laid);
            rounds = g.allowed.rounds;
          };
        };
        more_points = more;
        points_are = refl;
        more_quads = added;
        quads_are = refl;
        passed = λ loops g i l. every_at (λ k. quad_passes limit (s.points ++ more) (get_or added k no_quad)) (n / 2) i (not-false _ t27.0) (omega (arith, many));
      })

pub fan_lays : (limit : Float) (j : Job) (s t : State) → fan limit j s ≡ gives t → Lays limit s t
unfolding fan
fan_lays limit j s t e = go s.fronts refl e
  where
    after : List (List ℕ) → Outcome State
    after x = elim x [ [] ↦ gives s | f ∷ fs ↦ cond (eqb (length fs) 0) (fanned limit j s f) (refused 23) ]

    go : (x : List (List ℕ)) → s.fronts ≡ x → after x ≡ gives t → Lays limit s t
    go [] d h = subst (λ u. Lays limit s u) (gives_same h) (lays_none limit s)
    go (f ∷ []) d h = fanned_lays limit j s f t d h
    go (f ∷ (k ∷ fs)) d h = absurd (not_both (rw (ne_eqb (suc (length fs)) 0 (λ x. omega arith)) at h))

-- ---- a row

pub row_lays : (j : Job) (li : ℕ) (s t : State) → row_at j li s ≡ gives t → Lays j.options.corner_limit s t
unfolding row_at
row_lays j li s t e = go (leb (length s.fronts) li) e
  where
    go : (b : Bool) → cond b (refused 20) (next_row j s li) ≡ gives t → Lays j.options.corner_limit s t
    go true f = absurd (not_both f)
    go false f = (row_advances j s li t f).lays

-- ---- an accepted job or sample

-- an accepted call on a job: its input stands, and the buffers are what it gives, written
pub record Accepted (j : Job) (l : Lengths) (made : Outcome State) : Type 0 where
  pub input : input_number j l ≡ 0
  pub state : State
  pub made_is : made ≡ gives state
  pub held_is : (on_job j l made).held ≡ written state

call_accepted : (j : Job) (l : Lengths) (made : Outcome State) (ns : List ℕ) → (member 0 ns ≡ true → ⊥) → RefusedIn ns made → number_of (on_job j l made) ≡ 0 → Accepted j l made
unfolding on_job job_left RefusedIn
call_accepted j l made ns none listed e = go (eqb (input_number j l) 0) refl made refl e
  where
    left : Bool → Outcome State → Left
    left t x = job_left l (cond t x (refused (input_number j l)))

    go : (t : Bool) → eqb (input_number j l) 0 ≡ t → (x : Outcome State) → made ≡ x → number_of (left t x) ≡ 0 → Accepted j l made
    go false d x m f = absurd (eqb-false (input_number j l) 0 d f)
    go true d (refused n) m f = absurd (none (subst (λ k. member k ns ≡ true) f (listed n m)))
    go true d (gives s) m f = record { input = eqb-true (input_number j l) 0 d; state = s; made_is = m; held_is = rw (d, m) }

pub job_accepted : (j : Job) (l : Lengths) → number_of (job_call j l) ≡ 0 → Accepted j l (paved j)
unfolding job_call
job_accepted j l e = call_accepted j l (paved j) job_refusals no_zero (paved_in j) e
  where
    no_zero : member 0 job_refusals ≡ true → ⊥
    no_zero h = unfold member in false≢true h

pub sample_accepted : (j : Job) (l : Lengths) → number_of (sample_call j l) ≡ 0 → Accepted j l (sampled j)
unfolding sample_call
sample_accepted j l e = call_accepted j l (sampled j) loop_numbers no_zero (sampled_in j) e
  where
    no_zero : member 0 loop_numbers ≡ true → ⊥
    no_zero h = unfold member in false≢true h

-- how a job came about: sampled, then the passes, then the closings
pub record Made (j : Job) (t : State) : Type 0 where
  pub start : State
  pub sampled_is : sampled j ≡ gives start
  pub rows : State
  pub passes_are : some_passes j j.options.max_row_rounds start ≡ gives rows
  pub closings_are : closings j.options.corner_limit rows ≡ gives t

pub paved_made : (j : Job) (t : State) → paved j ≡ gives t → Made j t
unfolding paved and_then
paved_made j t e = go (sampled j) refl e
  where
    limit : ℕ
    limit = j.options.max_row_rounds

    rows : (s : State) → sampled j ≡ gives s → (y : Outcome State) → some_passes j limit s ≡ y → and_then y (closings j.options.corner_limit) ≡ gives t → Made j t
    rows s d (refused n) c f = absurd (not_both f)
    rows s d (gives u) c f = record { start = s; sampled_is = d; rows = u; passes_are = c; closings_are = f }

    go : (x : Outcome State) → sampled j ≡ x → and_then (and_then x (some_passes j limit)) (closings j.options.corner_limit) ≡ gives t → Made j t
    go (refused n) d f = absurd (not_both f)
    go (gives s) d f = rows s d (some_passes j limit s) refl f

pub start_stands : (j : Job) (l : Lengths) (s : State) → input_number j l ≡ 0 → sampled j ≡ gives s → Stands (sampled_loops (sampled j)) s
unfolding sampled_loops
start_stands j l s input e = rw (ap sampled_loops e) (sampled_stands j s e (accepted j l input).few)

-- the state that the passes left
pub rows_stand : (j : Job) (l : Lengths) (t : State) → input_number j l ≡ 0 → (m : Made j t) → Stands (sampled_loops (sampled j)) m.rows
rows_stand j l t input m =
    (passes_advance j j.options.max_row_rounds m.start m.rows m.passes_are).lays.keeps (sampled_loops (sampled j)) (start_stands j l m.start input m.sampled_is)
