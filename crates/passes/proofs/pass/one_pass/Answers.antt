-- `passes::pass::one_pass` meets its contract.
use Rattle.std.proofs.Common.{rules, Err, ap, refl, ◌∙◌}
use native.Mathlib.Omega.{arith}
use Rattle.state.specs.State.{Held}
use Rattle.state.specs.Lent.{Same, held_in}
use Rattle.state.proofs.Lending.{same_again}
use Rattle.input.specs.Job.{accepted_of}
use Rattle.passes.proofs.Rows.{rowed_done, rowed_refused, rowed_full, rowed_all, order_read, order_long, order_below, pass_begins, pass_full, pass_done}
use Rattle.passes.proofs.pass.one_pass.Goals as goal
use Rattle.passes.proofs.pass.one_pass.Goals.{in-Ok, in-Err}

pub loop-li-init : goal.loop-li-init
loop-li-init c =
    let given : Held = held_in c.args.lent.now c.args.counts in
    (pass_begins (accepted_of c.args.job.now) given c.begun-c.result c.begun-c.ensures _ c.requires.sound c.requires.clean, record { points = refl; quads = refl; front_nodes = refl; front_lengths = refl; points_long = refl; quads_long = refl; front_nodes_long = refl; front_lengths_long = refl })

pub next_row-answer-requires-clause-li_lt_fronts : goal.next_row-answer-requires-clause-li_lt_fronts
next_row-answer-requires-clause-li_lt_fronts c =
    let given : Held = held_in c.args.lent.now c.args.counts in
    let found = order_read given c.requires.sound c.order_on-order.result c.order_on-order.ensures in
    let long = order_long given c.requires.sound c.order_on-order.result found in
    let below = order_below given c.requires.sound c.order_on-order.result found c.loop-li.li-index (omega arith) in
    rw c.loop-li.invariant.0.fronts below

pub returns-clause-passed : goal.returns-clause-passed
returns-clause-passed c =
    let given : Held = held_in c.args.lent.now c.args.counts in
    let found = order_read given c.requires.sound c.order_on-order.result c.order_on-order.ensures in
    let long = order_long given c.requires.sound c.order_on-order.result found in
    let at : Held = held_in c.loop-li.lent c.loop-li.c in
    pass_done (accepted_of c.args.job.now) given c.begun-c.result c.begun-c.ensures _ found at c.loop-li.invariant.0.clean (rowed_all _ given.counts.fronts _ _ long c.loop-li.li-index at c.loop-li.invariant.0 (omega arith))

pub returns-clause-same : goal.returns-clause-same
returns-clause-same c = c.loop-li.invariant.1

pub loop-li-preserved : goal.loop-li-preserved
loop-li-preserved c =
    let given : Held = held_in c.args.lent.now c.args.counts in
    let found = order_read given c.requires.sound c.order_on-order.result c.order_on-order.ensures in
    let long = order_long given c.requires.sound c.order_on-order.result found in
    let same : Same c.args.lent.now c.next_row-answer.new.lent = same_again c.loop-li.invariant.1 c.next_row-answer.ensures.same in
    elim c.match-answer.branch [
      | in-Ok w ↦ (rw w.c-is (rowed_done _ _ _ _ long _ _ c.loop-li.invariant.0 (omega arith) _ _ c.next_row-answer.ensures.left w.in-Ok.is), same)
      | in-Err w ↦ (rw w.c-is (rowed_refused _ _ _ _ long _ _ c.loop-li.invariant.0 (omega arith) _ _ c.next_row-answer.ensures.left w.in-Err.is (λ q. search rules)), same)
    ]

pub returns-in-Err-Full-clause-passed : goal.returns-in-Err-Full-clause-passed
returns-in-Err-Full-clause-passed c =
    let given : Held = held_in c.args.lent.now c.args.counts in
    let found = order_read given c.requires.sound c.order_on-order.result c.order_on-order.ensures in
    let long = order_long given c.requires.sound c.order_on-order.result found in
    pass_full (accepted_of c.args.job.now) given c.begun-c.result c.begun-c.ensures _ found given
    (rowed_full _ _ _ _ long _ _ c.loop-li.invariant.0 (omega arith) _ _ c.next_row-answer.ensures.left (c.in-Err-Full.is ∙ ap Err (rw c.in-Err-Full.is at c.in-Err-Full.field-0-is)))
