-- `pair_counts::all_twice` meets its contract.
use mathlib.Core.Path.{◌≡◌, sym, ◌∙◌}
use mathlib.Core.List.{List}
use Prim.Native.Nat.{ℕ, ◌≤◌}
use native.Mathlib.Omega.{arith}
use lib.ListN.{length, take, replicate}
use lib.Seq.{length-take-le}
use Rattle.state.specs.Limits.{point_limit}
use Rattle.pair_counts.specs.Sides.{lower, higher, ends_of_all, side_limit}
use Rattle.pair_counts.proofs.Ends.{Below}
use Rattle.pair_counts.proofs.Groups.{three_groups, rings_of, below_groups, lows_small, highs_small, all_tested}
use borrow.Author.Rules.{rules}
use Rattle.pair_counts.proofs.all_twice.Goals as goal

pub sides_twice-requires : goal.sides_twice-requires
sides_twice-requires c =
    let rings : List (List ℕ) = rings_of c.args.loops.now c.args.quads.now c.args.fronts.now in
    let below : Below point_limit rings = below_groups c.args.loops.now c.args.quads.now c.args.fronts.now in
    let lows : List ℕ = take c.put_rings-all.result c.put_rings-all.new.lows in
    let highs : List ℕ = take c.put_rings-all.result c.put_rings-all.new.highs in
    let lows-are : lows ≡ ends_of_all lower rings = (three_groups lower _ _ _ (replicate 20480 0) c.put_rings-behind_loops.new.lows c.put_rings-behind_quads.new.lows c.put_rings-all.new.lows c.put_rings-behind_loops.result c.put_rings-behind_quads.result c.put_rings-all.result
    c.put_rings-behind_loops.ensures.lows_after c.put_rings-behind_quads.ensures.lows_after c.put_rings-all.ensures.lows_after) in
    let highs-are : highs ≡ ends_of_all higher rings = (three_groups higher _ _ _ (replicate 20480 0) c.put_rings-behind_loops.new.highs c.put_rings-behind_quads.new.highs c.put_rings-all.new.highs c.put_rings-behind_loops.result c.put_rings-behind_quads.result c.put_rings-all.result
    c.put_rings-behind_loops.ensures.highs_after c.put_rings-behind_quads.ensures.highs_after c.put_rings-all.ensures.highs_after) in
    let lows-long : length lows ≡ c.put_rings-all.result = length-take-le c.put_rings-all.result c.put_rings-all.new.lows (search rules) in
    let highs-long : length highs ≡ c.put_rings-all.result = length-take-le c.put_rings-all.result c.put_rings-all.new.highs (search rules) in
    let few : c.put_rings-all.result ≤ side_limit = search rules in
    let l = lows-long in
    let f = few in record {
      lows_len_bound = (omega arith, highs-long ∙ sym l);
      by_index = lows_small rings below lows highs lows-are (highs-are);
      by_index_2 = highs_small rings below lows highs lows-are (highs-are);
    }

pub returns : goal.returns
returns c =
    let rings : List (List ℕ) = rings_of c.args.loops.now c.args.quads.now c.args.fronts.now in
    let below : Below point_limit rings = below_groups c.args.loops.now c.args.quads.now c.args.fronts.now in
    let lows : List ℕ = take c.put_rings-all.result c.put_rings-all.new.lows in
    let highs : List ℕ = take c.put_rings-all.result c.put_rings-all.new.highs in
    let lows-are : lows ≡ ends_of_all lower rings = (three_groups lower _ _ _ (replicate 20480 0) c.put_rings-behind_loops.new.lows c.put_rings-behind_quads.new.lows c.put_rings-all.new.lows c.put_rings-behind_loops.result c.put_rings-behind_quads.result c.put_rings-all.result
    c.put_rings-behind_loops.ensures.lows_after c.put_rings-behind_quads.ensures.lows_after c.put_rings-all.ensures.lows_after) in
    let highs-are : highs ≡ ends_of_all higher rings = (three_groups higher _ _ _ (replicate 20480 0) c.put_rings-behind_loops.new.highs c.put_rings-behind_quads.new.highs c.put_rings-all.new.highs c.put_rings-behind_loops.result c.put_rings-behind_quads.result c.put_rings-all.result
    c.put_rings-behind_loops.ensures.highs_after c.put_rings-behind_quads.ensures.highs_after c.put_rings-all.ensures.highs_after) in
    all_tested rings below lows highs lows-are highs-are c.sides_twice.result c.sides_twice.ensures
