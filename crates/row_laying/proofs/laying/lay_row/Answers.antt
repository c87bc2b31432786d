-- `row_laying::laying::lay_row` meets its contract.
use mathlib.Core.Path.{refl}
use Rattle.state.specs.State.{Held}
use Rattle.state.specs.Call.{held}
use Rattle.state.specs.Sound.{sizes_of}
use Rattle.state.proofs.Cutting.{part_is}
use Rattle.state.proofs.Reading.{sound_counted, fits}
use Rattle.row_laying.proofs.Writing.{within, laid_is_lem}
use Rattle.row_laying.proofs.laying.lay_row.Goals as goal

pub put_row-requires-clause-within : goal.put_row-requires-clause-within
put_row-requires-clause-within c =
    let e = c.front_at-front.ensures in within _ c.requires.sound c.requires.clean c.args.li _ c.args.row.now c.requires.room e.1 e.0

pub returns : goal.returns
returns c =
    let given : Held = held c.args.points.now c.args.quads.now c.args.front_nodes.now c.args.front_lengths.now c.args.counts in
    let e = c.front_at-front.ensures in
    let old-is = part_is (sizes_of given) c.args.front_nodes.now c.args.li c.requires.room.front (fits given (sound_counted given c.requires.sound)) _ _ _ e.0 e.1 refl in
    laid_is_lem given c.requires.sound c.requires.clean c.args.li c.front_at-front.result.len c.args.row.now c.requires.room e.1 c.put_row.ensures.points old-is c.put_row.ensures.quads (rw e.0 at c.put_row.ensures.nodes) c.with_row.ensures
