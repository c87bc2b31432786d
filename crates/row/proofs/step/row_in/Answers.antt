-- `row::step::row_in` meets its contract.
use mathlib.Core.Path.{◌≡◌, refl, ◌∙◌, ap}
use Prim.Native.Nat.{◌*◌, ◌<◌}
use native.Mathlib.Omega.{arith}
use lib.ListN.{length, get_or, take}
use lib.Seq.{length-take-le, get_or-take}
use Rattle.std.proofs.lemmas.Result.{err_from_is_err_and}
use Rattle.state.specs.State.{Held}
use Rattle.state.specs.Lent.{held_in}
use Rattle.state.specs.Sound.{sizes_of}
use Rattle.state.proofs.Reading.{sizes_long, sound_counted}
use Rattle.state.proofs.Zeros.{same_state, still_sound, now_clean}
use Rattle.input.specs.Job.{accepted_of}
use Rattle.row.proofs.Stepping.{refuses, lays, row_read, has_room, same_room}
use Rattle.row.proofs.step.row_in.Goals as goal

pub returns-in_err-n-clause-left : goal.returns-in_err-n-clause-left
returns-in_err-n-clause-left g c =
    let p = err_from_is_err_and c.from_residual.result c.from_residual.ensures.1 in
    let given : Held = held_in c.args.lent.now c.args.counts in
    let there : c.args.li < length (sizes_of given) = rw (sizes_long given (sound_counted given c.requires.sound)) c.requires.li_lt_fronts in
    rw (p.1, p.2) (refuses given c.requires.sound c.args.li there (accepted_of c.args.job.now) _ c.in_err-n.ensures.value)

pub lay_row_in-after-requires : goal.lay_row_in-after-requires
lay_row_in-after-requires g c =
    let given : Held = held_in c.args.lent.now c.args.counts in
    let s = c.requires.sound in
    let there : c.args.li < length (sizes_of given) = rw (sizes_long given (sound_counted given s)) c.requires.li_lt_fronts in
    let size_is : get_or (sizes_of given) c.args.li 0 ≡ get_or c.args.lent.now.front_lengths.now c.args.li 0 = get_or-take c.args.counts.fronts c.args.lent.now.front_lengths.now c.args.li 0 c.requires.li_lt_fronts in
    let m : length (take (c.in_ok-n.n * 2) c.try_on.new.row) ≡ get_or (sizes_of given) c.args.li 0 * 2 = length-take-le _ c.try_on.new.row (omega (arith, c.in_ok-n.ensures.points)) ∙ ap (λ k. k * 2) c.in_ok-n.ensures.points in
    let e = c.clear_behind.ensures.written in record {
      sound = still_sound given s _ e;
      clean = now_clean given s _ e;
      room = same_room given s _ e c.args.li _ (has_room given s c.args.li there (accepted_of c.args.job.now) _ c.in_ok-n.ensures.value m);
    }

pub returns-clause-left : goal.returns-clause-left
returns-clause-left g c =
    let given : Held = held_in c.args.lent.now c.args.counts in
    let s = c.requires.sound in
    let j = accepted_of c.args.job.now in
    let there : c.args.li < length (sizes_of given) = rw (sizes_long given (sound_counted given s)) c.requires.li_lt_fronts in
    let new = row_read given s c.args.li there j c.try_on.new.row _ c.in_ok-n.ensures.points (c.in_ok-n.ensures.row_after refl) in
    lays given s c.args.li there j _ _ c.in_ok-n.ensures.value new (rw (same_state given s _ c.clear_behind.ensures.written) at c.lay_row_in-after.ensures.laid)
