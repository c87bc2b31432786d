-- The demands hold.
use mathlib.Core.Path.{◌≡◌, refl, ap, sym, ◌∙◌, subst₂}
use mathlib.Core.Bool.{false}
use mathlib.Core.List.{List, ◌++◌, map, append_assoc}
use Prim.Native.Nat.{ℕ, ◌*◌, ◌%◌, ◌≤◌}
use native.Mathlib.Omega.{arith}
use lib.Ieee.{Float}
use lib.Dec.{lit≤}
use lib.ListN.{length, take, length-append}
use lib.Seq.{take_at}
use Rattle.float.specs.Helpers.{decimal}
use Rattle.state.specs.Limits.{points_length, quads_length}
use Rattle.state.specs.State.{State, Held, Lengths, Quad, nodes, joined, padded, written, reading}
use Rattle.state.specs.Coordinates.{wrong_coordinate}
use Rattle.state.specs.Given.{wrong_state}
use Rattle.state.specs.Call.{number_of}
use Rattle.input.specs.Job.{Job}
use Rattle.input.proofs.Shape.{accepted}
use Rattle.geometry.proofs.Sizes.{all_less}
use Rattle.state.specs.Outcome.{gives}
use Rattle.rules.specs.Passes.{some_passes}
use Rattle.rules.specs.Closing.{closure, closed}
use Rattle.rules.specs.Calls.{job_call}
use Rattle.pairs.specs.Pairs.{pair_count}
use Rattle.rules.specs.Demands.{Tiled, Reached, by_job, by_call, by_fan, Laid, under_limit, Begins, Demand3}
use Rattle.state.proofs.Outcomes.{gives_same}
use Rattle.state.proofs.Written.{reading-written}
use Rattle.state.proofs.Growing.{numbers, numbers-append, length-numbers}
use Rattle.rules.proofs.Corners.{Passed}
use Rattle.rules.proofs.Allowed.{Stands, number_25}
use Rattle.rules.proofs.SampleGood.{sampled_began, sampled_stands}
use Rattle.rules.proofs.PassGood.{Advances, row_one_each, passes_prefix, passes_advance}
use Rattle.rules.proofs.SampleSizes.{all_right, limited, sampled_all}
use Rattle.rules.proofs.PassSizes.{passes_all}
use Rattle.rules.proofs.Limits.{sampled_same, passes_same}
use Rattle.rules.proofs.Answers.{Made, job_accepted, paved_made, closings_give, rows_stand}
use Rattle.rules.proofs.Uses.{read_back, call_follows, reached_holds}

-- ---- any use of the calls

stands_tiled : (loops : List (List ℕ)) (limits : List Float) (s : State) → Stands loops s → Passed limits s.points s.quads → Tiled loops limits s
unfolding pair_count
stands_tiled loops limits s g p = record { each = p.each; corners = p.corners; pairs = g.good.count }

reached_tiled : {loops : List (List ℕ)} {limits : List Float} {b : Held} → Reached loops limits b → Tiled loops limits (reading b)
reached_tiled {loops} {limits} r = let h = reached_holds r in rw (read_back h) (stands_tiled loops limits h.state h.stands h.passed)

reached_taken : {loops : List (List ℕ)} {limits : List Float} {b : Held} → Reached loops limits b → wrong_state b ≡ wrong_coordinate (decimal 1000000000 0) (reading b).points
reached_taken {loops} r = let h = reached_holds r in ap wrong_state h.held_is ∙ number_25 loops h.state h.stands ∙ ap (λ s. wrong_coordinate (decimal 1000000000 0) s.points) (sym (read_back h))

-- ---- an accepted job

-- the state that the passes left, and what the answer is of it
record Rows (j : Job) (l : Lengths) : Type 0 where
  pub state : State
  pub made : Made j state
  pub held_is : (job_call j l).held ≡ written (closed j.options.corner_limit made.rows)
  pub read_is : reading (job_call j l).held ≡ closed j.options.corner_limit made.rows
  pub even : length made.rows.points % 2 ≡ 0
  pub advance : Advances j made.start made.rows
  -- laid is all that the rows laid
  pub all : made.rows.laid ≡ length made.rows.quads

rows_of : (j : Job) (l : Lengths) → number_of (job_call j l) ≡ 0 → Rows j l
unfolding job_call closed
rows_of j l e =
    let a = job_accepted j l e in
    let m = paved_made j a.state a.made_is in
    let is = (closings_give j.options.corner_limit m.rows a.state m.closings_are).0 in
    let adv = passes_advance j j.options.max_row_rounds m.start m.rows m.passes_are in
    let fresh = (sampled_began j m.start m.sampled_is).fresh in
    let even = (rows_stand j l a.state a.input m).good.even in
    record {
      state = a.state;
      made = m;
      held_is = a.held_is ∙ ap written is;
      read_is = ap reading (a.held_is ∙ ap written is) ∙ reading-written (closed j.options.corner_limit m.rows) even;
      even = even;
      advance = adv;
      all = adv.laid_all (fresh.none_laid ∙ sym (ap length fresh.none));
    }

job_laid : (j : Job) (l : Lengths) → number_of (job_call j l) ≡ 0 → Laid j (job_call j l).held
unfolding closed written
job_laid j l e =
    let r = rows_of j l e in
    let u = r.made.rows in
    let s = r.made.start in
    let adv = r.advance in
    let more = adv.lays in
    let none : length s.quads ≡ 0 = ap length (sampled_began j s r.made.sampled_is).fresh.none in
    let points : (reading (job_call j l).held).points ≡ u.points = ap (λ t. t.points) r.read_is in
    let laid : (job_call j l).held.counts.laid ≡ length u.quads = ap (λ b. b.counts.laid) r.held_is ∙ r.all in
    record {
      start = s;
      sampled_is = r.made.sampled_is;
      rows = u;
      passes_are = r.made.passes_are;
      points = points;
      sampled_first = rw (points, more.points_are) (take_at s.points more.more_points (length s.points) refl);
      laid_is = laid;
      quads_first = rw (laid, r.read_is) (take_at u.quads _ (length u.quads) refl);
      one_for_each = omega (arith, ap length more.points_are, ap length more.quads_are, length-append s.points more.more_points, length-append s.quads more.more_quads, adv.one_for_each);
    }

-- its points are finite and within 1,000,000,000: sampled ones within 419,777,216, and 6,000,000 more for each of 64 passes at most
job_taken : (j : Job) (l : Lengths) → number_of (job_call j l) ≡ 0 → wrong_state (job_call j l).held ≡ false
job_taken j l e =
    let input = (job_accepted j l e).input in
    let d = job_laid j l e in
    let shape = accepted j l input in
    let lim = limited j l input in
    let start = sampled_all j lim d.start (omega arith) d.sampled_is in
    let rows = passes_all j lim d.start.fronts j.options.max_row_rounds 419777216 d.start d.rows (omega arith) d.passes_are (sampled_stands j d.start d.sampled_is shape.few) start in
    reached_taken (by_job j l e)
    ∙ ap (wrong_coordinate (decimal 1000000000 0)) d.points
    ∙ all_right 1000000000 (lit≤ tt) d.rows.points (all_less d.rows.points (omega arith) rows)

-- ---- two pass limits

-- the first quads of a list, written
first_quads : (qs more : List Quad) (rest : List ℕ) → take (length qs * 4) (numbers (qs ++ more) ++ rest) ≡ numbers qs
first_quads qs more rest =
    rw (numbers-append qs more, append_assoc (numbers qs) (numbers more) rest)
    (take_at (numbers qs) _ (length qs * 4) (length-numbers qs))

-- the first of a list, with more behind it
first_true : {A : Type 0} (xs more rest : List A) (n : ℕ) → length xs ≡ n → take n ((xs ++ more) ++ rest) ≡ xs
first_true xs more rest n e = rw (append_assoc xs more rest) (take_at xs (more ++ rest) n e)

-- two states that the rows left, one going on from the other, after their closings
module _ (j : Job) (s t : State) (adv : Advances j s t) (all : s.laid ≡ length s.quads) (even : length s.points % 2 ≡ 0) where
  -- what stands behind the written points and quads of each
  points_first : take (nodes s * 2) (padded points_length (decimal 0 0) t.points) ≡ s.points
  points_first = rw adv.lays.points_are (first_true s.points adv.lays.more_points _ (nodes s * 2) (omega arith))

  quads_first_lem : (added : List Quad) → take (s.laid * 4) (padded quads_length 0 (numbers (t.quads ++ added))) ≡ numbers s.quads
  quads_first_lem added = rw (all, adv.lays.quads_are, append_assoc s.quads adv.lays.more_quads added) (first_quads s.quads (adv.lays.more_quads ++ added) _)

  closed_begins : (limit : Float) → Begins (written (closed limit s)) (written (closed limit t))
  unfolding written closed
  closed_begins limit = record {
    fewer_points = rw adv.lays.points_are (omega (arith, length-append s.points adv.lays.more_points));
    fewer_laid = rw (all, adv.laid_all all, adv.lays.quads_are) (omega (arith, length-append s.quads adv.lays.more_quads));
    same_points = take_at s.points _ (nodes s * 2) (omega arith) ∙ sym points_first;
    same_quads = ap (λ n. take (n * 4) (padded quads_length 0 (numbers (s.quads ++ joined (map (closure limit s.points) s.fronts))))) all
        ∙ first_quads s.quads (joined (map (closure limit s.points) s.fronts)) _
        ∙ sym (quads_first_lem (joined (map (closure limit t.points) t.fronts)));
  }

begins : (j : Job) (l : Lengths) (p q : ℕ) → p ≤ q → number_of (job_call (under_limit j p) l) ≡ 0 → number_of (job_call (under_limit j q) l) ≡ 0
    → Begins (job_call (under_limit j p) l).held (job_call (under_limit j q) l).held
begins j l p q le e f =
    let a = rows_of (under_limit j p) l e in
    let b = rows_of (under_limit j q) l f in
    let s = a.made.start in
    let u = a.made.rows in
    let v = b.made.rows in
    let same : b.made.start ≡ s = gives_same (sym b.made.sampled_is ∙ sym (sampled_same j p q) ∙ a.made.sampled_is) in
    let later : some_passes (under_limit j p) q s ≡ gives v = passes_same j p q q s ∙ ap (some_passes (under_limit j q) q) (sym same) ∙ b.made.passes_are in
    let adv = passes_prefix (under_limit j p) p q s u v le a.made.passes_are later in
    subst₂ Begins (sym a.held_is) (sym b.held_is) (closed_begins (under_limit j p) u v adv a.all a.even j.options.corner_limit)

pub demand_3 : Demand3
demand_3 = record {
  prefix = begins;
  answer = λ j l e. reached_tiled (by_job j l e);
  fan = λ j k l e. reached_tiled (by_call (by_job j l e) (by_fan k));
  any_use = reached_tiled;
  behind = λ r c. (call_follows (reached_holds r) c).behind;
  taken_back = reached_taken;
  accepted_back = job_taken;
  row = row_one_each;
  laid = job_laid;
}
