-- `loop_text::put_lines` meets its contract.
use Prim.Native.Nat.{◌≤◌}
use native.Mathlib.Omega.{arith}
use lib.ListN.{length}
use Rattle.state.specs.State.{cut}
use Rattle.answer_text.proofs.Lengths.{fronts_length}
use Rattle.tile_text.specs.TileList.{loops_text}
use Rattle.loop_text.proofs.put_lines.Goals as goal

pub put_rings-requires : goal.put_rings-requires
put_rings-requires c =
    let short : length (loops_text (cut c.args.lengths.now c.args.nodes.now)) ≤ 12320 = (let l = fronts_length 115 c.args.lengths.now c.args.nodes.now (λ i. omega (arith, c.type_inv.nodes i)) in
    let n = c.requires.1 in
    let m = c.requires.2 in
    omega arith) in
    let l = short in
    let p = c.requires.0 in record {
      room = omega arith;
      lengths_in_bounds = c.requires.3;
    }

pub returns-clause-upper_bound : goal.returns-clause-upper_bound
returns-clause-upper_bound c =
    let short : length (loops_text (cut c.args.lengths.now c.args.nodes.now)) ≤ 12320 = (let l = fronts_length 115 c.args.lengths.now c.args.nodes.now (λ i. omega (arith, c.type_inv.nodes i)) in
    let n = c.requires.1 in
    let m = c.requires.2 in
    omega arith) in
    let l = short in
    let e = c.put_rings.ensures.put.place in
    omega arith
