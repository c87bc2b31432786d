-- `job_text::loops::read_loops` meets its contract.
use mathlib.Core.Path.{sym, ◌∙◌}
use native.Mathlib.Omega.{arith}
use Rattle.job_text.proofs.Following.{loop_place}
use Rattle.job_text.proofs.Storing.{loops_step}
use Rattle.job_text.proofs.loops.read_loops.Goals as goal

pub narrow-requires : goal.narrow-requires
narrow-requires c =
    let p = loop_place _ c.args.at 0 _ _ c.read_loop-outer.result c.requires.0 c.read_loop-outer.ensures in
    let s = c.requires.1 in
    let o = c.requires.2 in
    omega (arith, p.0, p.1)

pub read_holes-requires : goal.read_holes-requires
read_holes-requires c =
    let p = loop_place _ c.args.at 0 _ _ c.read_loop-outer.result c.requires.0 c.read_loop-outer.ensures in
    (p.1, c.requires.1, omega (arith, p.0), c.read_loop-outer.auto.coords ∙ c.requires.3, c.store.auto.numbers ∙ c.requires.4)

pub returns : goal.returns
returns c =
    c.read_holes.ensures ∙ sym (loops_step c.args.text.now c.args.at c.args.coords.now c.args.loop_lengths.now c.requires.0 _ _ c.read_loop-outer.result c.read_loop-outer.ensures (rw (sym c.narrow.ensures) c.store.ensures))
