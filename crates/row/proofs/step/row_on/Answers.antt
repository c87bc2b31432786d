-- `row::step::row_on` meets its contract.
use Prim.Native.Nat.{◌<◌}
use native.Mathlib.Omega.{arith}
use lib.ListN.{length}
use lib.Seq.{get_or-take}
use Rattle.state.specs.State.{Held}
use Rattle.state.specs.Lent.{held_in}
use Rattle.state.specs.Sound.{sizes_of}
use Rattle.state.proofs.Cutting.{total_within}
use Rattle.state.proofs.Reading.{sizes_long, sound_counted}
use Rattle.row.proofs.step.row_on.Goals as goal

pub row_in-requires-else-lent-li-le64-clause-room : goal.row_in-requires-else-lent-li-le64-clause-room
row_in-requires-else-lent-li-le64-clause-room c =
    let given : Held = held_in c.args.lent.now c.args.counts in
    let p = c.requires in
    let there : c.args.li < length (sizes_of given) = rw (sizes_long given (sound_counted given p.sound)) p.li_lt_fronts in
    let w = total_within (sizes_of given) c.args.li there in
    let n = get_or-take c.args.counts.fronts c.args.lent.now.front_lengths.now c.args.li 0 p.li_lt_fronts in
    (omega arith, omega arith)
