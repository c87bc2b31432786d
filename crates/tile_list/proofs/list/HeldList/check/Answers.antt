-- `tile_list::list::HeldList::check` meets its contract.
use mathlib.Core.Path.{sym, ◌∙◌, ap}
use Prim.Native.Nat.{◌*◌}
use native.Mathlib.Omega.{arith}
use lib.Seq.{length-take-le, get_or-take}
use Rattle.pair_counts.specs.Twice.{all_twice}
use Rattle.tile_list.specs.Steps.{list_of}
use Rattle.tile_list.proofs.Numbers.{sb, so, quads_within, quads_below_lem, sum_quads, rings_are, pair_found, corner_found, none_found, corners_are}
use Rattle.tile_list.proofs.list.HeldList.check.Goals as goal

pub slice_bounds-loops-end : goal.slice_bounds-loops-end
slice_bounds-loops-end c =
    let s = c.args.self.now in
    let o = so s c.requires.allowed in
    let n = o.fronts in
    let l = o.front_lengths_long in
    sym (length-take-le s.loops s.loop_lengths.now (omega arith))

pub slice_bounds-quads-end : goal.slice_bounds-quads-end
slice_bounds-quads-end c =
    let s = c.args.self.now in
    let n = (sb s c.requires.allowed).quads in
    let l = s.quads_long in
    sym (length-take-le s.counts.quads s.quad_lengths.now (omega arith))

pub slice_bounds-fronts-end : goal.slice_bounds-fronts-end
slice_bounds-fronts-end c =
    let s = c.args.self.now in
    let b = sb s c.requires.allowed in
    let n = b.fronts in
    let l = b.front_lengths_long in
    sym (length-take-le s.counts.fronts s.state.front_lengths.now (omega arith))

pub invariant_of-loops : goal.invariant_of-loops
invariant_of-loops c =
    let s = c.args.self.now in
    let o = so s c.requires.allowed in
    let sum = o.front_nodes in
    let long = o.front_nodes_long in
    let points = (sb s c.requires.allowed).points in record {
      fits = omega arith;
      below = (λ i l. let w = o.below i l in omega arith);
    }

pub invariant_of-quads : goal.invariant_of-quads
invariant_of-quads c =
    let s = c.args.self.now in
    let a = c.requires.allowed in
    let points = (sb s a).points in
    let fours = sum_quads s a c.requires.fours in
    let inside = quads_within s a in record {
      fits = omega arith;
      below = (λ i l. let w = quads_below_lem s a i (omega arith) in omega arith);
    }

pub invariant_of-fronts : goal.invariant_of-fronts
invariant_of-fronts c =
    let b = sb c.args.self.now c.requires.allowed in
    let sum = b.front_nodes in
    let long = b.front_nodes_long in
    let points = b.points in record {
      fits = omega arith;
      below = (λ i l. let w = b.below i l in omega arith);
    }

pub all_twice-requires : goal.all_twice-requires
all_twice-requires c =
    let s = c.args.self.now in
    let a = c.requires.allowed in
    let b = sb s a in
    let loops = (so s a).front_nodes in
    let fours = sum_quads s a c.requires.fours in
    let quads = b.quads in
    let fronts = b.front_nodes in
    omega arith

pub returns-then-not-all_twice : goal.returns-then-not-all_twice
returns-then-not-all_twice c =
    let s = c.args.self.now in
    let r = c.requires in
    pair_found (list_of s) (sym (ap all_twice (rings_are s r.allowed r.fours)) ∙ sym c.all_twice.ensures ∙ c.if-not-all_twice.true)

pub overflow_mul-counts : goal.overflow_mul-counts
overflow_mul-counts c =
    let n = (sb c.args.self.now c.requires.allowed).points in
    omega arith

pub slice_bounds-all_pass-end : goal.slice_bounds-all_pass-end
slice_bounds-all_pass-end c =
    let s = c.args.self.now in
    let b = sb s c.requires.allowed in
    let n = b.points in
    let l = b.points_long in
    sym (length-take-le (s.counts.points * 2) s.state.points.now (omega arith))

pub overflow_mul-counts-2 : goal.overflow_mul-counts-2
overflow_mul-counts-2 c =
    let n = (sb c.args.self.now c.requires.allowed).quads in
    omega arith

pub slice_bounds-all_pass-end-2 : goal.slice_bounds-all_pass-end-2
slice_bounds-all_pass-end-2 c =
    let s = c.args.self.now in
    sym (length-take-le (s.counts.quads * 4) s.state.quads.now (quads_within s c.requires.allowed))

pub all_pass-requires : goal.all_pass-requires
all_pass-requires c =
    let s = c.args.self.now in
    let b = sb s c.requires.allowed in
    let n = b.points in
    let l = b.points_long in
    let t = length-take-le (s.counts.points * 2) s.state.points.now (omega arith) in
    let u = length-take-le (s.counts.quads * 4) s.state.quads.now (quads_within s c.requires.allowed) in
    λ i h.
    let w = quads_below_lem s c.requires.allowed i (omega arith) in
    rw (get_or-take (s.counts.quads * 4) s.state.quads.now i 0 (omega arith)) (omega arith)

pub returns-then-not-all_pass : goal.returns-then-not-all_pass
returns-then-not-all_pass c =
    let s = c.args.self.now in
    let r = c.requires in
    let twice = sym (ap all_twice (rings_are s r.allowed r.fours)) ∙ sym c.all_twice.ensures ∙ c.if-not-all_twice.false in
    corner_found (list_of s) twice (sym (corners_are s (quads_within s r.allowed)) ∙ sym c.all_pass.ensures ∙ c.if-not-all_pass.true)

pub returns : goal.returns
returns c =
    let s = c.args.self.now in
    let r = c.requires in
    let twice = sym (ap all_twice (rings_are s r.allowed r.fours)) ∙ sym c.all_twice.ensures ∙ c.if-not-all_twice.false in
    none_found (list_of s) twice (sym (corners_are s (quads_within s r.allowed)) ∙ sym c.all_pass.ensures ∙ c.if-not-all_pass.false)
