-- `tile_list::list::HeldList::is_allowed` meets its contract.
use mathlib.Core.Path.{sym, ◌∙◌, ap}
use Prim.Native.Nat.{◌*◌}
use native.Mathlib.Omega.{arith}
use lib.Seq.{length-take-le}
use Rattle.answer_text.proofs.LineLaws.{quads_begin}
use Rattle.tile_text.specs.TileList.{every_quad, four_different}
use Rattle.tile_list.specs.Steps.{state_in, loops_in}
use Rattle.tile_list.proofs.Allowing.{state_refused, loops_refused, no_loop, many_passes, all_tested, quads_within}
use Rattle.tile_list.proofs.list.HeldList.is_allowed.Goals as goal

pub returns-then-is_wrong : goal.returns-then-is_wrong
returns-then-is_wrong c =
    let l = c.args.self.now in
    state_refused (state_in l) (loops_in l) (sym c.is_wrong.ensures ∙ c.if-is_wrong.true)

pub returns-then-is_wrong-2 : goal.returns-then-is_wrong-2
returns-then-is_wrong-2 c =
    let l = c.args.self.now in
    loops_refused (state_in l) (loops_in l) (sym c.is_wrong.ensures ∙ c.if-is_wrong.false) (sym c.is_wrong-2.ensures ∙ c.if-is_wrong-2.true)

pub returns-then-self-eq0 : goal.returns-then-self-eq0
returns-then-self-eq0 c =
    let l = c.args.self.now in
    no_loop (state_in l) (loops_in l) (sym c.is_wrong.ensures ∙ c.if-is_wrong.false) (sym c.is_wrong-2.ensures ∙ c.if-is_wrong-2.false) c.if-self-eq0.true

pub returns-then-counts-gt64 : goal.returns-then-counts-gt64
returns-then-counts-gt64 c =
    let l = c.args.self.now in
    many_passes (state_in l) (loops_in l) (sym c.is_wrong.ensures ∙ c.if-is_wrong.false) (sym c.is_wrong-2.ensures ∙ c.if-is_wrong-2.false) c.if-self-eq0.false c.if-counts-gt64.true

pub overflow_mul-counts : goal.overflow_mul-counts
overflow_mul-counts c =
    let l = c.args.self.now in
    let w = quads_within (state_in l) (loops_in l) (sym c.is_wrong.ensures ∙ c.if-is_wrong.false) l.state_long in
    let q = w.0 in
    omega arith

pub slice_bounds-all_different-end : goal.slice_bounds-all_different-end
slice_bounds-all_different-end c =
    let l = c.args.self.now in
    let w = quads_within (state_in l) (loops_in l) (sym c.is_wrong.ensures ∙ c.if-is_wrong.false) l.state_long in
    sym (length-take-le (l.counts.quads * 4) l.state.quads.now w.1)

pub returns : goal.returns
returns c =
    let l = c.args.self.now in
    let right = sym c.is_wrong.ensures ∙ c.if-is_wrong.false in
    let w = quads_within (state_in l) (loops_in l) right l.state_long in
    c.all_different.ensures
    ∙ ap (every_quad four_different) (sym (quads_begin l.counts.quads l.state.quads.now w.1))
    ∙ all_tested (state_in l) (loops_in l) right (sym c.is_wrong-2.ensures ∙ c.if-is_wrong-2.false) c.if-self-eq0.false c.if-counts-gt64.false
