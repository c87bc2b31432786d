-- What an accepted job left is an accepted tile list: the first part of specs/JobList.
use mathlib.Core.Path.{◌≡◌, refl, sym, ◌∙◌, ap, subst}
use mathlib.Core.Bool.{Bool, true, false, not, ◌&&◌}
use mathlib.Core.List.{List, [], ◌∷◌, ◌++◌, map}
use mathlib.Core.Logic.{◌⊎◌, inl, inr}
use mathlib.Core.Option.{some}
use Prim.Native.Nat.{ℕ, zero, suc, ◌+◌, ◌*◌, ◌/◌, ◌%◌, ◌≤◌, ◌<◌}
use native.Mathlib.Omega.{arith}
use borrow.Author.Tests.{eq-eqb, ne_eqb, le-leb}
use lib.Dec.{eqb, leb}
use lib.ListN.{length, get_or, replicate, get_or-replicate, length-append, length-replicate}
use lib.Ieee.{Float}
use Rattle.float.specs.Helpers.{decimal}
use Rattle.state.specs.State.{State, Quad, quad, Held, quad_nodes, joined, nodes, written, reading}
use Rattle.state.specs.Given.{repeated, some_from, wrong_state}
use Rattle.state.specs.Outcome.{gives}
use Rattle.state.specs.Call.{number_of, lent}
use Rattle.state.proofs.Written.{reading-written}
use Rattle.state.proofs.Fitting.{from_higher}
use Rattle.input.specs.Job.{Job, input_number}
use Rattle.input.specs.Limit.{default_limit}
use Rattle.input.proofs.Shape.{accepted as shaped}
use Rattle.sampling.specs.Sample.{sampled, on_job}
use Rattle.pairs.specs.Pairs.{pair_count, sides_of_all}
use Rattle.pairs.proofs.Occurs.{occurs_joined, none_repeated}
use Rattle.pairs.proofs.Sides.{sides-append_all}
use Rattle.rules.specs.Calls.{paved, job_call}
use Rattle.rules.specs.Checks.{quad_passes}
use Rattle.rules.specs.Closing.{closed}
use Rattle.rules.specs.Demands.{sampled_loops, Tiled}
use Rattle.rules.proofs.Demands as demands
use Rattle.rules.proofs.Allowed.{Stands, fronts_below_lem}
use Rattle.rules.proofs.Laying.{Lays}
use Rattle.rules.proofs.SampleGood.{sampled_began}
use Rattle.rules.proofs.SampleSizes.{limited}
use Rattle.rules.proofs.PassGood.{passes_advance}
use Rattle.rules.proofs.Answers.{Accepted, Made, job_accepted, paved_made, start_stands, rows_stand, closings_lay, closings_give}
use Rattle.pair_counts.specs.Twice.{all_twice}
use Rattle.pair_counts.proofs.Twice.{twice}
use Rattle.tile_text.specs.TileList.{TileList, with_fronts, list_text, allowed, every_quad, four_different, pass_limit}
use Rattle.tile_text.specs.Readable.{F64s}
use Rattle.tile_text.proofs.Allowing.{fair}
use Rattle.tile_text.proofs.Readable.{read_back}
use Rattle.tile_list.specs.Recheck.{rings, recheck_text}
use Rattle.tile_list.proofs.Numbers.{none_found}
use Rattle.tile_list.proofs.Answers as answers
use Rattle.job_lists.specs.JobList.{job_list}
use Rattle.job_lists.proofs.Steps.{few_passes}
use Rattle.job_lists.proofs.Fits.{AllFit, fit_places, places_fit, rows_fit}
use Rattle.job_lists.proofs.Different.{all_different, job_differ}
use Rattle.job_lists.proofs.Loops.{loops_right, sampled_none}

-- a test that holds at each place
every_place : (p : Quad → Bool) (qs : List Quad) → ((i : ℕ) → i < length qs → p (get_or qs i (quad 0 0 0 0)) ≡ true) → every_quad p qs ≡ true
unfolding every_quad
every_place p [] h = refl
every_place p (q ∷ qs) h = rw (h 0 (omega arith)) (every_place p qs (λ i l. h (suc i) (omega arith)))

module _ (j : Job) (f : F64s j.coords) (limit : j.options.corner_limit ≡ default_limit) (z : number_of (job_call j lent) ≡ 0) where
  abbrev a : Accepted j lent (paved j)
  a = job_accepted j lent z

  abbrev t : State
  t = a.state

  abbrev m : Made j t
  m = paved_made j t a.made_is

  abbrev loops : List (List ℕ)
  loops = sampled_loops (sampled j)

  held : (job_call j lent).held ≡ written t
  unfolding job_call
  held = a.held_is

  start_holds : Stands loops m.start
  start_holds = start_stands j lent m.start a.input m.sampled_is

  stands : Stands loops t
  stands = (closings_lay j.options.corner_limit m.rows t m.closings_are).keeps loops (rows_stand j lent t a.input m)

  even : length t.points ≡ nodes t * 2
  even = let e = stands.good.even in omega arith

  read : reading (job_call j lent).held ≡ t
  read = ap reading held ∙ reading-written t stands.good.even

  loops_are : loops ≡ m.start.fronts
  unfolding sampled_loops
  loops_are = ap sampled_loops m.sampled_is

  right : wrong_state (written t) ≡ false
  right = ap wrong_state (sym held) ∙ (demands.demand_3).accepted_back j lent z

  closed_is : t ≡ closed j.options.corner_limit m.rows
  closed_is = (closings_give j.options.corner_limit m.rows t m.closings_are).0

  points_are_lem : t.points ≡ m.rows.points
  unfolding closed
  points_are_lem = ap (λ (u : State). u.points) closed_is

  passes_are_lem : t.passes ≡ m.rows.passes
  unfolding closed
  passes_are_lem = ap (λ (u : State). u.passes) closed_is

  more_nodes : nodes m.start ≤ nodes t
  more_nodes =
      let x = (passes_advance j j.options.max_row_rounds m.start m.rows m.passes_are).lays in
      let p = ap length x.points_are in
      let l = length-append m.start.points x.more_points in
      let q = ap length points_are_lem in
      omega arith

  few : t.passes ≤ pass_limit
  few =
      let n = few_passes j j.options.max_row_rounds m.start m.rows m.passes_are in
      let none = sampled_none j m.start m.sampled_is in
      let most = (limited j lent a.input).rounds in
      let p = passes_are_lem in
      omega arith

  loops-allowed : wrong_state (written (with_fronts loops t)) ≡ false
  loops-allowed =
      let g = start_holds.good in
      let w = start_holds.allowed in
      rw loops_are
      (loops_right t even (fair t even right) m.start.fronts w.fronts w.front_nodes w.three
      (from_higher (nodes m.start) (nodes t) (joined m.start.fronts) more_nodes (fronts_below_lem (nodes m.start) m.start.fronts g.low))
      (none_repeated (joined m.start.fronts) (λ c. let o = g.once c in let e = occurs_joined c m.start.fronts in omega arith)))

  some_loop : eqb (length loops) 0 ≡ false
  some_loop =
      let n = (sampled_began j m.start m.sampled_is).fronts in
      let s = (shaped j lent a.input).some in
      let e = ap length loops_are in
      ne_eqb (length loops) 0 (λ zero-loops. omega arith)

  abbrev list : TileList
  list = record { loops = loops; state = t }

  differ : every_quad four_different t.quads ≡ true
  differ =
      all_different t.quads
      (job_differ j loops j.options.max_row_rounds j.options.corner_limit m.start m.rows t start_holds m.sampled_is m.passes_are m.closings_are)

  list_allowed : allowed list ≡ true
  unfolding allowed
  list_allowed = rw (right, loops-allowed, some_loop, le-leb t.passes pass_limit few, differ) (eq-eqb (length t.points) (nodes t * 2) even)

  fits : F64s t.points
  fits = subst F64s (sym points_are_lem) (fit_places m.rows.points (rows_fit j j.options.max_row_rounds m.start m.rows (places_fit j.coords f) m.sampled_is m.passes_are))

  tiled : Tiled loops (replicate (job_call j lent).held.counts.quads j.options.corner_limit) (reading (job_call j lent).held)
  tiled = (demands.demand_3).answer j lent z

  pairs_twice : (x y : ℕ) → (sides_of_all x y (rings list) ≡ 0) ⊎ (sides_of_all x y (rings list) ≡ 2)
  unfolding pair_count
  pairs_twice x y =
      let e = sides-append_all x y loops (map quad_nodes t.quads ++ t.fronts) in
      let g = sides-append_all x y (map quad_nodes t.quads) t.fronts in
      elim (subst (λ (s : State). (pair_count loops s x y ≡ 0) ⊎ (pair_count loops s x y ≡ 2)) read (tiled.pairs x y)) [ inl h ↦ inl (omega arith) | inr h ↦ inr (omega arith) ]

  corners_pass_lem : every_quad (quad_passes default_limit t.points) t.quads ≡ true
  corners_pass_lem =
      every_place (quad_passes default_limit t.points) t.quads
      (λ i l.
      let held-quads = tiled.each in
      let n = length-replicate (job_call j lent).held.counts.quads j.options.corner_limit in
      let many : length (reading (job_call j lent).held).quads ≡ length t.quads = ap (λ (s : State). length s.quads) read in
      let c = tiled.corners i (omega arith) in
      let H = reading (job_call j lent).held in
      let d =
      subst (λ (x : Float). quad_passes x H.points (get_or H.quads i (quad 0 0 0 0)) ≡ true)
      (get_or-replicate (job_call j lent).held.counts.quads i j.options.corner_limit (decimal 0 0) (omega arith) ∙ limit) c in
      subst (λ (s : State). quad_passes default_limit s.points (get_or s.quads i (quad 0 0 0 0)) ≡ true) read d)

  pub list_accepted : recheck_text (list_text list) ≡ list_text list
  list_accepted =
      sym
      (answers.accepted (list_text list) list (read_back list fits list_allowed) 0 (none_found list (twice.found (rings list) pairs_twice) corners_pass_lem) refl)

  job_list_lem : job_list j ≡ list
  job_list_lem = rw read

pub accepted_list : (j : Job) → F64s j.coords → j.options.corner_limit ≡ default_limit → number_of (job_call j lent) ≡ 0 → recheck_text (list_text (job_list j)) ≡ list_text (job_list j)
accepted_list j f limit z = subst (λ (l : TileList). recheck_text (list_text l) ≡ list_text l) (sym (job_list_lem j f limit z)) (list_accepted j f limit z)
