-- `showing::put_shown` meets its contract.
use Rattle.std.proofs.Common.{sym, ◌∙◌}
use Rattle.state.specs.State.{Held}
use Rattle.state.specs.Lent.{held_of}
use Rattle.state.proofs.Sounding as sounding
use Rattle.text.proofs.Midst.{put_same}
use Rattle.showing.proofs.Stated.{unshown, stands}
use Rattle.showing.proofs.put_shown.Goals as goal

pub returns-then-is_wrong-clause-put : goal.returns-then-is_wrong-clause-put
returns-then-is_wrong-clause-put c =
    let given : Held = held_of c.args.held.now c.args.counts in
    unshown given c.args.w.now.out.now c.args.w.now.at (sym c.is_wrong.ensures ∙ c.if-is_wrong.true)

pub put_held-requires-clause-sound : goal.put_held-requires-clause-sound
put_held-requires-clause-sound c =
    let given : Held = held_of c.args.held.now c.args.counts in
    sounding.sound given c.requires.lengths (sym c.is_wrong.ensures ∙ c.if-is_wrong.false)

pub returns-clause-put : goal.returns-clause-put
returns-clause-put c =
    let given : Held = held_of c.args.held.now c.args.counts in
    put_same (stands given (sym c.is_wrong.ensures ∙ c.if-is_wrong.false)) c.put_held.ensures.put
