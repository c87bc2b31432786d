-- `job::paved::pave` meets its contract.
use mathlib.Core.Path.{◌≡◌, sym, ◌∙◌, ap}
use Rattle.std.proofs.lemmas.Result.{err_from_is_err_and}
use Rattle.state.specs.State.{Held, Lengths, no_counts}
use Rattle.state.specs.Lent.{held_in, lengths_in}
use Rattle.state.specs.Call.{held}
use Rattle.input.specs.Job.{Job, accepted_of, input_number}
use Rattle.input.proofs.Shape.{shape_of}
use Rattle.sampling.proofs.Calling.{sampled_call}
use Rattle.passes.specs.Passed.{written_of}
use Rattle.passes.proofs.Runs.{passes_done, passes_refused}
use Rattle.job.proofs.Paving.{Started, made, loops_refused, started, start_sound, start-clean, start_passes, passes_refuse, passes_give, closed}
use Rattle.job.proofs.paved.pave.Goals as goal

pub put_loops-requires : goal.put_loops-requires
put_loops-requires c = shape_of _ c.in_ok-accepted.ensures.same c.in_ok-accepted.ensures.value

pub returns-in_err-start-clause-passed : goal.returns-in_err-start-clause-passed
returns-in_err-start-clause-passed c =
    let p = err_from_is_err_and c.from_residual-in_err-start.result c.from_residual-in_err-start.ensures.1 in
    let l : Lengths = lengths_in c.args.lent.now in
    let j : Job = accepted_of c.in_ok-accepted.accepted in
    let input : 0 ≡ input_number j l = c.in_ok-accepted.ensures.value ∙ ap (λ (x : Job). input_number x l) (sym c.in_ok-accepted.ensures.same) in
    rw (p.1, p.2) (ap written_of (loops_refused j l _ input c.in_err-start.ensures.refused ∙ ap (λ (x : Job). made x l) c.in_ok-accepted.ensures.same))

pub some_passes-requires : goal.some_passes-requires
some_passes-requires c =
    let l : Lengths = lengths_in c.args.lent.now in
    let j : Job = accepted_of c.in_ok-accepted.accepted in
    let input : 0 ≡ input_number j l = c.in_ok-accepted.ensures.value ∙ ap (λ (x : Job). input_number x l) (sym c.in_ok-accepted.ensures.same) in
    let left_by : Held = held_in c.put_loops.new.lent no_counts in
    let b : Held = held left_by.points left_by.quads left_by.front_nodes left_by.front_lengths c.in_ok-start.start in
    let start : Started j l b = started j l c.in_ok-start.start left_by (c.in_ok-start.ensures.given ∙ sampled_call j l input) in record {
      sound = start_sound j l b start;
      clean = start-clean j l b start;
      most_bound = start_passes j l b start;
    }

pub returns-in_err-laid-clause-passed : goal.returns-in_err-laid-clause-passed
returns-in_err-laid-clause-passed c =
    let p = err_from_is_err_and c.from_residual-in_err-laid.result c.from_residual-in_err-laid.ensures.1 in
    let l : Lengths = lengths_in c.args.lent.now in
    let j : Job = accepted_of c.in_ok-accepted.accepted in
    let input : 0 ≡ input_number j l = c.in_ok-accepted.ensures.value ∙ ap (λ (x : Job). input_number x l) (sym c.in_ok-accepted.ensures.same) in
    let left_by : Held = held_in c.put_loops.new.lent no_counts in
    let b : Held = held left_by.points left_by.quads left_by.front_nodes left_by.front_lengths c.in_ok-start.start in
    let start : Started j l b = started j l c.in_ok-start.start left_by (c.in_ok-start.ensures.given ∙ sampled_call j l input) in
    let r = passes_refused j j.options.max_row_rounds b (start_sound j l b start) (held_in c.some_passes.new.lent no_counts) _ c.in_err-laid.ensures.passed in
    rw (p.1, p.2) (ap written_of (passes_refuse j l b start _ r ∙ ap (λ (x : Job). made x l) c.in_ok-accepted.ensures.same))

pub close_small_fronts-requires : goal.close_small_fronts-requires
close_small_fronts-requires c =
    let l : Lengths = lengths_in c.args.lent.now in
    let j : Job = accepted_of c.in_ok-accepted.accepted in
    let input : 0 ≡ input_number j l = c.in_ok-accepted.ensures.value ∙ ap (λ (x : Job). input_number x l) (sym c.in_ok-accepted.ensures.same) in
    let left_by : Held = held_in c.put_loops.new.lent no_counts in
    let b : Held = held left_by.points left_by.quads left_by.front_nodes left_by.front_lengths c.in_ok-start.start in
    let start : Started j l b = started j l c.in_ok-start.start left_by (c.in_ok-start.ensures.given ∙ sampled_call j l input) in
    let d = passes_done j j.options.max_row_rounds b (start_sound j l b start) (held_in c.some_passes.new.lent no_counts) _ c.in_ok-laid.ensures.passed in record {
      sound = d.0;
      clean = λ h. d.1;
    }

pub returns-clause-passed : goal.returns-clause-passed
returns-clause-passed c =
    let l : Lengths = lengths_in c.args.lent.now in
    let j : Job = accepted_of c.in_ok-accepted.accepted in
    let input : 0 ≡ input_number j l = c.in_ok-accepted.ensures.value ∙ ap (λ (x : Job). input_number x l) (sym c.in_ok-accepted.ensures.same) in
    let left_by : Held = held_in c.put_loops.new.lent no_counts in
    let b : Held = held left_by.points left_by.quads left_by.front_nodes left_by.front_lengths c.in_ok-start.start in
    let start : Started j l b = started j l c.in_ok-start.start left_by (c.in_ok-start.ensures.given ∙ sampled_call j l input) in
    let d = passes_done j j.options.max_row_rounds b (start_sound j l b start) (held_in c.some_passes.new.lent no_counts) _ c.in_ok-laid.ensures.passed in
    let all = passes_give j l b start _ d.2 ∙ ap (λ (x : Job). made x l) c.in_ok-accepted.ensures.same in
    closed (held_in c.some_passes.new.lent c.in_ok-laid.laid) _ _ (held_in c.close_small_fronts.new.lent c.in_ok-laid.laid) no_counts c.close_small_fronts.ensures.left ∙ ap written_of all
