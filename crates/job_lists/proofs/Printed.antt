-- What `loops` and then `pave` print for the text of an accepted job is its tile list's text: the second part of specs/JobList.
use mathlib.Core.Path.{◌≡◌, refl, sym, ◌∙◌, ap, subst}
use mathlib.Core.List.{List, [], ◌∷◌, ◌++◌, map}
use mathlib.Core.Option.{some, Option-elim}
use Prim.Native.Nat.{ℕ}
use native.Mathlib.Omega.{arith}
use lib.Ieee.{Float, binary64, of_int}
use lib.Ieee.Fits.{of_int-fits}
use Rattle.state.specs.State.{State, joined, written, reading, counts_of}
use Rattle.state.specs.Outcome.{gives, Outcome}
use Rattle.state.specs.Call.{Left, number_of, lent, job_left}
use Rattle.state.proofs.Written.{reading-written}
use Rattle.input.specs.Job.{Job}
use Rattle.input.specs.Limit.{default_limit}
use Rattle.sampling.specs.Sample.{sampled, on_job, sample_call}
use Rattle.rules.specs.Calls.{paved, job_call}
use Rattle.rules.specs.Demands.{sampled_loops}
use Rattle.rules.proofs.Answers.{Accepted, Made, job_accepted, paved_made, start_stands}
use Rattle.job_text.specs.Drawing.{Drawing, Place, coordinates, loops, job_of}
use Rattle.job_text.specs.Reading.{read_job}
use Rattle.answer_text.specs.AnswerText.{state_text, answer_text}
use Rattle.plate_text.specs.PaveText.{pave_text}
use Rattle.loop_text.specs.SampledText.{loop_lines, sampled_text}
use Rattle.loop_text.proofs.Sampling.{read_some}
use Rattle.tile_text.specs.TileList.{loops_text, list_text}
use Rattle.tile_text.specs.Readable.{F64s}
use Rattle.tile_list.specs.Recheck.{recheck_text}
use Rattle.job_lists.specs.JobList.{job_list, JobLists}
use Rattle.job_lists.proofs.Fits.{AllFit, fit_places}
use Rattle.job_lists.proofs.Accepted.{accepted_list}

-- ---- a drawing's coordinates are f64s

whole_fit : (ps : List Place) → AllFit (joined (map coordinates ps))
unfolding joined
whole_fit [] = tt
whole_fit (p ∷ ps) = (of_int-fits binary64 p.x, (of_int-fits binary64 p.y, whole_fit ps))

drawing_fit : (d : Drawing) → F64s (job_of d).coords
unfolding job_of
drawing_fit d = fit_places (joined (map coordinates (joined (loops d)))) (whole_fit (joined (loops d)))

drawing_limit : (d : Drawing) → (job_of d).options.corner_limit ≡ default_limit
unfolding job_of
drawing_limit d = refl

-- ---- the two texts

module _ (j : Job) (z : number_of (job_call j lent) ≡ 0) where
  abbrev a : Accepted j lent (paved j)
  a = job_accepted j lent z

  abbrev m : Made j a.state
  m = paved_made j a.state a.made_is

  loop_lines_lem : loop_lines (sample_call j lent) ≡ loops_text (sampled_loops (sampled j))
  unfolding loop_lines sample_call on_job job_left sampled_loops
  loop_lines_lem =
      rw (a.input, m.sampled_is)
      (ap (λ (s : State). loops_text s.fronts) (reading-written m.start (start_stands j lent m.start a.input m.sampled_is).good.even))

  state_lines : answer_text (job_call j lent) ≡ state_text (reading (job_call j lent).held)
  unfolding answer_text job_call on_job job_left
  state_lines = rw (a.input, a.made_is)

  both : loop_lines (sample_call j lent) ++ answer_text (job_call j lent) ≡ list_text (job_list j)
  unfolding list_text
  both = ap (λ x. x ++ answer_text (job_call j lent)) loop_lines_lem ∙ ap (λ x. loops_text (sampled_loops (sampled j)) ++ x) state_lines

pave_some : (t : List ℕ) (d : Drawing) → read_job t ≡ some d → pave_text t ≡ answer_text (job_call (job_of d) lent)
unfolding pave_text Option-elim
pave_some t d e = rw e

pub printed_list : (t : List ℕ) (d : Drawing) → read_job t ≡ some d → number_of (job_call (job_of d) lent) ≡ 0 → recheck_text (sampled_text t ++ pave_text t) ≡ sampled_text t ++ pave_text t
printed_list t d e z =
    let text : sampled_text t ++ pave_text t ≡ list_text (job_list (job_of d)) =
    ap (λ x. x ++ pave_text t) (sym (read_some t d e)) ∙ ap (λ x. loop_lines (sample_call (job_of d) lent) ++ x) (pave_some t d e) ∙ both (job_of d) z in
    subst (λ x. recheck_text x ≡ x) (sym text) (accepted_list (job_of d) (drawing_fit d) (drawing_limit d) z)

pub job-lists : JobLists
job-lists = record { accepted = accepted_list; printed = printed_list }
